-- Scripts of which z3 and cvc5 say the same (z3 -in; cvc5 --incremental --lang smt2 --strict-parsing). Written by tests/smtlib/vectors.rs from tests/smtlib/scripts.txt.
use Prim.Native.Nat.{ℕ}
use Prim.Native.String.{String}
use mathlib.Core.Bool.{Bool, true, false}
use mathlib.Core.List.{List, [], ◌∷◌}

-- accepted, with every setting that satisfies them, the first symbol's number slowest
abbrev pub satisfied : List (String × List (List ℕ))
satisfied =
    ("; first a comment\n(set-logic QF_BV) ; the logic\n(declare-fun v0 () (_ BitVec 2));v0\n;(assert false)\n(assert (bvult v0 #b10)) ; ) and no list (\n(check-sat)\n(exit) ; no line behind", (0 ∷ []) ∷ (1 ∷ []) ∷ [])
    ∷ ("(set-logic QF_BV)(declare-fun |v0| () (_ BitVec 2))(assert (= v0 #b01))(assert (= |v0| v0))(check-sat)(exit)", (1 ∷ []) ∷ [])
    ∷ ("(set-logic QF_UFBV)(declare-fun v0 () Bool)(declare-fun v1 () Bool)(assert (=> |v0| v1))(check-sat)(exit)", (0 ∷ 0 ∷ []) ∷ (0 ∷ 1 ∷ []) ∷ (1 ∷ 1 ∷ []) ∷ [])
    ∷ ("(set-logic QF_BV)(declare-fun |a ;(b \"c| () Bool)(declare-fun |a ;(b| () Bool)(assert (and |a ;(b \"c| (not |a ;(b|)))(check-sat)(exit)", (1 ∷ 0 ∷ []) ∷ [])
    ∷ ("(set-logic QF_BV)(declare-fun || () Bool)(assert (not ||))(check-sat)(exit)", (0 ∷ []) ∷ [])
    ∷ ("(set-logic QF_BV)(declare-fun ~!$%^&*_-+=<>.?/ () Bool)(declare-fun <> () Bool)(declare-fun a.b () Bool)(declare-fun x!1 () Bool)(assert (and ~!$%^&*_-+=<>.?/ (not <>) a.b (not x!1)))(check-sat)(exit)", (1 ∷ 0 ∷ 1 ∷ 0 ∷ []) ∷ [])
    ∷ ("(set-logic QF_BV)\r\n(declare-fun\tv0\t()\tBool)\r\n(assert\r\n\tv0)\r\n(check-sat)\r\n(exit)\r\n", (1 ∷ []) ∷ [])
    ∷ ("\n\n (set-logic QF_BV )( declare-fun v0( )Bool)(assert(or v0(not v0)))( check-sat )(exit)\n\n", (0 ∷ []) ∷ (1 ∷ []) ∷ [])
    ∷ ("(set-logic QF_BV)(declare-fun V0 () Bool)(declare-fun v0 () Bool)(assert (and V0 (not v0)))(check-sat)(exit)", (1 ∷ 0 ∷ []) ∷ [])
    ∷ ("(set-logic QF_BV)(assert (|and| |true| (|=| #b1 #b1)))(check-sat)(exit)", ([]) ∷ [])
    ∷ ("(set-logic QF_BV)(declare-fun |let| () Bool)(declare-fun |assert| () Bool)(assert (xor |let| |assert|))(check-sat)(exit)", (0 ∷ 1 ∷ []) ∷ (1 ∷ 0 ∷ []) ∷ [])
    ∷ ("(set-logic QF_BV)(declare-fun Bool () Bool)(declare-fun BitVec () Bool)(declare-fun bv1 () Bool)(declare-fun extract () Bool)(assert (= Bool BitVec bv1 extract))(check-sat)(exit)", (0 ∷ 0 ∷ 0 ∷ 0 ∷ []) ∷ (1 ∷ 1 ∷ 1 ∷ 1 ∷ []) ∷ [])
    ∷ ("(set-logic QF_BV);café |\n(declare-fun |café| () Bool)(assert |café|)(check-sat)(exit)", (1 ∷ []) ∷ [])
    ∷ ("(set-logic QF_BV)(declare-fun|a|()Bool)(declare-fun b()Bool)(assert(=>|a|b))(check-sat)(exit)", (0 ∷ 0 ∷ []) ∷ (0 ∷ 1 ∷ []) ∷ (1 ∷ 1 ∷ []) ∷ [])
    ∷ ("(set-logic QF_BV)(assert true)(check-sat)(exit)", ([]) ∷ [])
    ∷ ("(set-logic QF_UFBV)(assert false)(check-sat)(exit)", [])
    ∷ ("(set-logic QF_UFBV)(check-sat)(exit)", ([]) ∷ [])
    ∷ ("(set-logic QF_BV)(declare-fun a () Bool)(assert a)(check-sat)(declare-fun b () Bool)(assert (not b))(check-sat)(exit)", (1 ∷ 0 ∷ []) ∷ [])
    ∷ ("(set-logic QF_BV)(declare-fun a () Bool)(assert a)(declare-fun b () (_ BitVec 3))(assert (=> a (bvsle b #b101)))(check-sat)(check-sat)(exit)", (1 ∷ 4 ∷ []) ∷ (1 ∷ 5 ∷ []) ∷ [])
    ∷ ("(set-logic QF_BV)(declare-fun a () Bool)(declare-fun b () Bool)(declare-fun c () Bool)(assert (=> a b c))(check-sat)(exit)", (0 ∷ 0 ∷ 0 ∷ []) ∷ (0 ∷ 0 ∷ 1 ∷ []) ∷ (0 ∷ 1 ∷ 0 ∷ []) ∷ (0 ∷ 1 ∷ 1 ∷ []) ∷ (1 ∷ 0 ∷ 0 ∷ []) ∷ (1 ∷ 0 ∷ 1 ∷ []) ∷ (1 ∷ 1 ∷ 1 ∷ []) ∷ [])
    ∷ ("(set-logic QF_BV)(declare-fun a () Bool)(declare-fun b () Bool)(declare-fun c () Bool)(assert (=> a b c))(assert (not (=> (=> a b) c)))(check-sat)(exit)", (0 ∷ 0 ∷ 0 ∷ []) ∷ (0 ∷ 1 ∷ 0 ∷ []) ∷ [])
    ∷ ("(set-logic QF_BV)(declare-fun a () (_ BitVec 2))(declare-fun b () (_ BitVec 2))(declare-fun c () (_ BitVec 2))(assert (= a b c))(check-sat)(exit)", (0 ∷ 0 ∷ 0 ∷ []) ∷ (1 ∷ 1 ∷ 1 ∷ []) ∷ (2 ∷ 2 ∷ 2 ∷ []) ∷ (3 ∷ 3 ∷ 3 ∷ []) ∷ [])
    ∷ ("(set-logic QF_BV)(declare-fun a () Bool)(declare-fun b () Bool)(declare-fun c () Bool)(assert (not (= a b c)))(assert (= (= a b) c))(check-sat)(exit)", (0 ∷ 0 ∷ 1 ∷ []) ∷ (0 ∷ 1 ∷ 0 ∷ []) ∷ (1 ∷ 0 ∷ 0 ∷ []) ∷ [])
    ∷ ("(set-logic QF_BV)(declare-fun a () (_ BitVec 2))(declare-fun b () (_ BitVec 2))(declare-fun c () (_ BitVec 2))(assert (distinct a b c #b01))(check-sat)(exit)", (0 ∷ 2 ∷ 3 ∷ []) ∷ (0 ∷ 3 ∷ 2 ∷ []) ∷ (2 ∷ 0 ∷ 3 ∷ []) ∷ (2 ∷ 3 ∷ 0 ∷ []) ∷ (3 ∷ 0 ∷ 2 ∷ []) ∷ (3 ∷ 2 ∷ 0 ∷ []) ∷ [])
    ∷ ("(set-logic QF_BV)(declare-fun a () Bool)(declare-fun b () Bool)(declare-fun c () Bool)(assert (distinct a b c))(check-sat)(exit)", [])
    ∷ ("(set-logic QF_BV)(declare-fun a () Bool)(declare-fun b () Bool)(declare-fun c () Bool)(assert (xor a b c))(check-sat)(exit)", (0 ∷ 0 ∷ 1 ∷ []) ∷ (0 ∷ 1 ∷ 0 ∷ []) ∷ (1 ∷ 0 ∷ 0 ∷ []) ∷ (1 ∷ 1 ∷ 1 ∷ []) ∷ [])
    ∷ ("(set-logic QF_BV)(declare-fun a () Bool)(declare-fun b () Bool)(assert (and (or a b) (or (not a) b) (or a (not b)) (or (not a) (not b))))(check-sat)(exit)", [])
    ∷ ("(set-logic QF_BV)(declare-fun x () (_ BitVec 3))(assert (bvslt (bvadd x #b001) x))(check-sat)(exit)", (3 ∷ []) ∷ [])
    ∷ ("(set-logic QF_BV)(declare-fun x () (_ BitVec 4))(assert (bvsle x (bvneg x)))(assert (not (= x #x0)))(check-sat)(exit)", (8 ∷ []) ∷ (9 ∷ []) ∷ (10 ∷ []) ∷ (11 ∷ []) ∷ (12 ∷ []) ∷ (13 ∷ []) ∷ (14 ∷ []) ∷ (15 ∷ []) ∷ [])
    ∷ ("(set-logic QF_BV)(declare-fun x () (_ BitVec 4))(assert (= (bvmul x x) #x1))(check-sat)(exit)", (1 ∷ []) ∷ (7 ∷ []) ∷ (9 ∷ []) ∷ (15 ∷ []) ∷ [])
    ∷ ("(set-logic QF_BV)(declare-fun x () (_ BitVec 2))(declare-fun y () (_ BitVec 2))(assert (ite (bvult x #b10) (= y #b11) (=> (= x y) false)))(check-sat)(exit)", (0 ∷ 3 ∷ []) ∷ (1 ∷ 3 ∷ []) ∷ (2 ∷ 0 ∷ []) ∷ (2 ∷ 1 ∷ []) ∷ (2 ∷ 3 ∷ []) ∷ (3 ∷ 0 ∷ []) ∷ (3 ∷ 1 ∷ []) ∷ (3 ∷ 2 ∷ []) ∷ [])
    ∷ ("(set-logic QF_BV)(declare-fun x () (_ BitVec 3))(declare-fun y () (_ BitVec 3))(assert (not (= (bvnot (bvand x y)) (bvor (bvnot x) (bvnot y)))))(check-sat)(exit)", [])
    ∷ ("(set-logic QF_BV)(declare-fun x () (_ BitVec 3))(declare-fun y () (_ BitVec 3))(assert (bvsgt x y))(assert (bvugt y x))(check-sat)(exit)", (0 ∷ 4 ∷ []) ∷ (0 ∷ 5 ∷ []) ∷ (0 ∷ 6 ∷ []) ∷ (0 ∷ 7 ∷ []) ∷ (1 ∷ 4 ∷ []) ∷ (1 ∷ 5 ∷ []) ∷ (1 ∷ 6 ∷ []) ∷ (1 ∷ 7 ∷ []) ∷ (2 ∷ 4 ∷ []) ∷ (2 ∷ 5 ∷ []) ∷ (2 ∷ 6 ∷ []) ∷ (2 ∷ 7 ∷ []) ∷ (3 ∷ 4 ∷ []) ∷ (3 ∷ 5 ∷ []) ∷ (3 ∷ 6 ∷ []) ∷ (3 ∷ 7 ∷ []) ∷ [])
    ∷ ("(set-logic QF_BV)(declare-fun x () (_ BitVec 3))(declare-fun y () (_ BitVec 3))(assert (distinct (bvsub x y) (bvadd x (bvneg y))))(check-sat)(exit)", [])
    ∷ ("(set-logic QF_BV)(declare-fun x () (_ BitVec 2))(declare-fun y () (_ BitVec 2))(assert (not (=> (bvslt x y) (bvslt y x) (= x y))))(assert (not (or (bvsle x y) (bvsge x y))))(check-sat)(exit)", [])
    ∷ ("(set-logic QF_BV)(declare-fun x () (_ BitVec 2))(declare-fun y () (_ BitVec 2))(assert (=> (bvslt x y) (bvult y x) (= (bvor x y) #b11)))(check-sat)(exit)", (0 ∷ 0 ∷ []) ∷ (0 ∷ 1 ∷ []) ∷ (0 ∷ 2 ∷ []) ∷ (0 ∷ 3 ∷ []) ∷ (1 ∷ 0 ∷ []) ∷ (1 ∷ 1 ∷ []) ∷ (1 ∷ 2 ∷ []) ∷ (1 ∷ 3 ∷ []) ∷ (2 ∷ 1 ∷ []) ∷ (2 ∷ 2 ∷ []) ∷ (2 ∷ 3 ∷ []) ∷ (3 ∷ 0 ∷ []) ∷ (3 ∷ 1 ∷ []) ∷ (3 ∷ 2 ∷ []) ∷ (3 ∷ 3 ∷ []) ∷ [])
    ∷ ("(set-logic QF_BV)(declare-fun p () Bool)(declare-fun w () (_ BitVec 5))(assert (= p (bvsge w #b10001)))(assert (xor p (bvuge w #b00011)))(check-sat)(exit)", (0 ∷ 16 ∷ []) ∷ (1 ∷ 0 ∷ []) ∷ (1 ∷ 1 ∷ []) ∷ (1 ∷ 2 ∷ []) ∷ [])
    ∷ ("(set-logic QF_BV)(declare-fun x () (_ BitVec 6))(assert (= (bvsub x #b000010) (bvneg x)))(check-sat)(exit)", (1 ∷ []) ∷ (33 ∷ []) ∷ [])
    ∷ ("(set-logic QF_BV)(assert (= #b01 (bvadd #b01 #b01 #b11)))(check-sat)(exit)", ([]) ∷ [])
    ∷ ("(set-logic QF_BV)(assert (= #b01 (bvand #b01 #b01 #b11)))(check-sat)(exit)", ([]) ∷ [])
    ∷ ("(set-logic QF_BV)(declare-fun x () (_ BitVec 2))(declare-fun y () (_ BitVec 2))(assert (= (bvadd x y x #b01) (bvmul x y #b11)))(check-sat)(exit)", (0 ∷ 3 ∷ []) ∷ (2 ∷ 1 ∷ []) ∷ [])
    ∷ ("(set-logic QF_BV)(declare-fun x () (_ BitVec 2))(declare-fun y () (_ BitVec 2))(assert (= (bvor x y #b01) (bvand #b11 x y #b01)))(check-sat)(exit)", (1 ∷ 1 ∷ []) ∷ [])
    ∷ ("(set-logic QF_BV)(declare-fun p () Bool)(declare-fun q () Bool)(declare-fun r () (_ BitVec 2))(assert (= (ite p (ite q #b00 #b01) (ite q #b10 #b11)) (bvadd r r)))(check-sat)(exit)", (0 ∷ 1 ∷ 1 ∷ []) ∷ (0 ∷ 1 ∷ 3 ∷ []) ∷ (1 ∷ 1 ∷ 0 ∷ []) ∷ (1 ∷ 1 ∷ 2 ∷ []) ∷ [])
    ∷ ("(set-logic QF_BV)(declare-fun p () Bool)(declare-fun x () (_ BitVec 1))(declare-fun y () (_ BitVec 1))(assert (= (ite p (bvslt x y) (bvult x y)) (= x #b1)))(check-sat)(exit)", (0 ∷ 0 ∷ 0 ∷ []) ∷ (1 ∷ 0 ∷ 0 ∷ []) ∷ (1 ∷ 0 ∷ 1 ∷ []) ∷ (1 ∷ 1 ∷ 0 ∷ []) ∷ [])
    ∷ ("(set-option :produce-models true)(set-logic QF_BV)(assert true)(check-sat)(exit)", ([]) ∷ [])
    ∷ ("(set-option :produce-models false)(set-logic QF_BV)(assert true)(check-sat)(exit)", ([]) ∷ [])
    ∷ ("(set-option :produce-models true)(set-option :produce-models false)(set-logic QF_BV)(declare-fun x () Bool)(assert x)(check-sat)(exit)", (1 ∷ []) ∷ [])
    ∷ ("(set-option :produce-models false)(set-option :produce-models true)(set-logic QF_BV)(declare-fun x () Bool)(assert x)(check-sat)(get-value (x))(exit)", (1 ∷ []) ∷ [])
    ∷ ("; a comment\n(set-option ; and one more\n:produce-models\ttrue)\n(set-logic QF_UFBV)(declare-fun x () Bool)(assert x)(check-sat)(get-value(x))(exit)", (1 ∷ []) ∷ [])
    ∷ ("(set-option :produce-models true)(set-logic QF_BV)(declare-fun x () (_ BitVec 2))(declare-fun y () (_ BitVec 2))(assert (bvult x y))(check-sat)(get-value (x y))(exit)", (0 ∷ 1 ∷ []) ∷ (0 ∷ 2 ∷ []) ∷ (0 ∷ 3 ∷ []) ∷ (1 ∷ 2 ∷ []) ∷ (1 ∷ 3 ∷ []) ∷ (2 ∷ 3 ∷ []) ∷ [])
    ∷ ("(set-option :produce-models true)(set-logic QF_BV)(declare-fun x () (_ BitVec 2))(declare-fun y () Bool)(assert (= y (= x #b10)))(check-sat)(get-value ((bvadd x #b01) y (and y true) #b1 true))(exit)", (0 ∷ 0 ∷ []) ∷ (1 ∷ 0 ∷ []) ∷ (2 ∷ 1 ∷ []) ∷ (3 ∷ 0 ∷ []) ∷ [])
    ∷ ("(set-option :produce-models true)(set-logic QF_BV)(declare-fun x () Bool)(assert x)(check-sat)(get-value (x))(get-value ((not x) |x| x))(exit)", (1 ∷ []) ∷ [])
    ∷ ("(set-option :produce-models true)(set-logic QF_BV)(declare-fun x () Bool)(assert x)(check-sat)(get-value (x))(check-sat)(get-value (x))(exit)", (1 ∷ []) ∷ [])
    ∷ ("(set-option :produce-models true)(set-logic QF_BV)(declare-fun x () Bool)(assert x)(check-sat)(declare-fun y () Bool)(check-sat)(get-value (x y))(exit)", (1 ∷ 0 ∷ []) ∷ (1 ∷ 1 ∷ []) ∷ [])
    ∷ ("(set-option :produce-models true)(set-logic QF_BV)(declare-fun x () Bool)(assert x)(check-sat)(get-value (x))(declare-fun y () Bool)(assert (not y))(check-sat)(get-value (y x))(exit)", (1 ∷ 0 ∷ []) ∷ [])
    ∷ ("(set-option :produce-models true)(set-logic QF_BV)(declare-fun x () Bool)(assert x)(check-sat)(get-value (x))(declare-fun y () Bool)(exit)", (1 ∷ 0 ∷ []) ∷ (1 ∷ 1 ∷ []) ∷ [])
    ∷ []

-- accepted, with some settings and whether they satisfy them
abbrev pub tried : List (String × List (List ℕ × Bool))
tried =
    ("(set-logic QF_BV)(declare-fun x () (_ BitVec 8))(assert (= x #xAf))(assert (= x #xaF))(check-sat)(exit)", (175 ∷ [], true) ∷ (174 ∷ [], false) ∷ (0 ∷ [], false) ∷ [])
    ∷ ("(set-logic QF_BV)(declare-fun x () (_ BitVec 16))(declare-fun y () (_ BitVec 16))(assert (and (bvsle #x8000 x) (bvslt x #x0000) (= (bvmul x y) #x0001)))(check-sat)(exit)", (65535 ∷ 65535 ∷ [], true) ∷ (32769 ∷ 32769 ∷ [], true) ∷ (1 ∷ 1 ∷ [], false) ∷ (65535 ∷ 1 ∷ [], false) ∷ (43691 ∷ 3 ∷ [], true) ∷ [])
    ∷ ("(set-logic QF_UFBV)(declare-fun a () (_ BitVec 7))(declare-fun b () (_ BitVec 9))(declare-fun c () (_ BitVec 10))(assert (=> (bvult a #b0000011) (bvsgt b #b000000000) (= (bvadd c c) #b0000000010)))(assert (not (= a #b0000011)))(check-sat)(exit)", (0 ∷ 0 ∷ 0 ∷ [], true) ∷ (0 ∷ 1 ∷ 1 ∷ [], true) ∷ (0 ∷ 1 ∷ 513 ∷ [], true) ∷ (2 ∷ 255 ∷ 2 ∷ [], false) ∷ (2 ∷ 256 ∷ 2 ∷ [], true) ∷ (3 ∷ 1 ∷ 1 ∷ [], false) ∷ (127 ∷ 511 ∷ 1023 ∷ [], true) ∷ [])
    ∷ ("(set-logic QF_BV)(declare-fun a () (_ BitVec 11))(declare-fun b () (_ BitVec 12))(declare-fun c () (_ BitVec 13))(declare-fun d () (_ BitVec 14))(declare-fun e () (_ BitVec 15))(assert (= (bvnot a) #b11111111110))(assert (= (bvneg b) #xfff))(assert (bvsge c #b1000000000001))(assert (= (bvand d #b00000000000111) (bvor d #b00000000000001)))(assert (distinct e (bvadd e e)))(check-sat)(exit)", (1 ∷ 1 ∷ 4097 ∷ 7 ∷ 1 ∷ [], true) ∷ (1 ∷ 1 ∷ 4096 ∷ 7 ∷ 1 ∷ [], false) ∷ (1 ∷ 1 ∷ 0 ∷ 3 ∷ 16384 ∷ [], true) ∷ (1 ∷ 1 ∷ 4095 ∷ 1 ∷ 32767 ∷ [], true) ∷ (1 ∷ 1 ∷ 4095 ∷ 1 ∷ 0 ∷ [], false) ∷ (0 ∷ 1 ∷ 4095 ∷ 1 ∷ 1 ∷ [], false) ∷ (1 ∷ 2 ∷ 4095 ∷ 1 ∷ 1 ∷ [], false) ∷ (1 ∷ 1 ∷ 4095 ∷ 8 ∷ 1 ∷ [], false) ∷ [])
    ∷ []

-- refused
abbrev pub refused : List (String)
refused =
    "(set-logic QF_BV)(assert (= x #b1))(check-sat)(exit)"
    ∷ "(set-logic QF_BV)(assert x)(declare-fun x () Bool)(check-sat)(exit)"
    ∷ "(set-logic QF_BV)(declare-fun x () Bool)(assert X)(check-sat)(exit)"
    ∷ "(set-logic QF_BV)(declare-fun x () Bool)(declare-fun x () Bool)(assert x)(check-sat)(exit)"
    ∷ "(set-logic QF_BV)(declare-fun x () Bool)(declare-fun y () Bool)(declare-fun |x| () Bool)(assert x)(check-sat)(exit)"
    ∷ "(set-logic QF_BV)(assert #b1)(check-sat)(exit)"
    ∷ "(set-logic QF_BV)(declare-fun x () (_ BitVec 4))(assert (bvadd x #x1))(check-sat)(exit)"
    ∷ "(set-logic QF_BV)(assert (and true #b1))(check-sat)(exit)"
    ∷ "(set-logic QF_BV)(assert (not #b1))(check-sat)(exit)"
    ∷ "(set-logic QF_BV)(assert (or true #b1))(check-sat)(exit)"
    ∷ "(set-logic QF_BV)(assert (=> true #b1))(check-sat)(exit)"
    ∷ "(set-logic QF_BV)(assert (xor true #b1))(check-sat)(exit)"
    ∷ "(set-logic QF_BV)(assert (= #b1 (bvadd #b1 true)))(check-sat)(exit)"
    ∷ "(set-logic QF_BV)(assert (= #b1 (bvnot true)))(check-sat)(exit)"
    ∷ "(set-logic QF_BV)(assert (bvneg true))(check-sat)(exit)"
    ∷ "(set-logic QF_BV)(assert (bvult true false))(check-sat)(exit)"
    ∷ "(set-logic QF_BV)(assert (= #b1 true))(check-sat)(exit)"
    ∷ "(set-logic QF_BV)(assert (= #b1 #b01))(check-sat)(exit)"
    ∷ "(set-logic QF_BV)(assert (= #xf #b01111))(check-sat)(exit)"
    ∷ "(set-logic QF_BV)(assert (= #b1 #b1 #b11))(check-sat)(exit)"
    ∷ "(set-logic QF_BV)(assert (distinct #b1 #b01))(check-sat)(exit)"
    ∷ "(set-logic QF_BV)(assert (= #b11 (bvadd #b1 #b01)))(check-sat)(exit)"
    ∷ "(set-logic QF_BV)(assert (bvslt #x0 #x00))(check-sat)(exit)"
    ∷ "(set-logic QF_BV)(declare-fun x () (_ BitVec 5))(assert (= x #xf))(check-sat)(exit)"
    ∷ "(set-logic QF_BV)(assert (= #b1 (ite true #b1 true)))(check-sat)(exit)"
    ∷ "(set-logic QF_BV)(assert (= #b1 (ite true #b1 #b01)))(check-sat)(exit)"
    ∷ "(set-logic QF_BV)(assert (ite #b1 true false))(check-sat)(exit)"
    ∷ "(set-logic QF_BV)(assert (not true false))(check-sat)(exit)"
    ∷ "(set-logic QF_BV)(assert (not))(check-sat)(exit)"
    ∷ "(set-logic QF_BV)(assert (= #b1 (bvneg #b1 #b1)))(check-sat)(exit)"
    ∷ "(set-logic QF_BV)(assert (= #b1 (bvnot #b1 #b1)))(check-sat)(exit)"
    ∷ "(set-logic QF_BV)(assert (ite true false))(check-sat)(exit)"
    ∷ "(set-logic QF_BV)(assert (ite true false true false))(check-sat)(exit)"
    ∷ "(set-logic QF_BV)(assert (bvslt #b1))(check-sat)(exit)"
    ∷ "(set-logic QF_BV)(assert (bvslt #b1 #b1 #b1))(check-sat)(exit)"
    ∷ "(set-logic QF_BV)(assert (bvsle #b1 #b1 #b1))(check-sat)(exit)"
    ∷ "(set-logic QF_BV)(assert (= #b1 (bvsub #b1)))(check-sat)(exit)"
    ∷ "(set-logic QF_BV)(assert (= #b1 (bvsub #b1 #b1 #b1)))(check-sat)(exit)"
    ∷ "(set-logic QF_BV)(assert (= #b1 (bvadd #b1 #b1 #b01)))(check-sat)(exit)"
    ∷ "(set-logic QF_BV)(assert (= #b1 (bvmul #b1 #b1 true)))(check-sat)(exit)"
    ∷ "(set-logic QF_BV)(assert (= #b1 (bvand)))(check-sat)(exit)"
    ∷ "(set-logic QF_BV)(assert (= #b1 bvor))(check-sat)(exit)"
    ∷ "(set-logic QF_BV)(assert (= #b1))(check-sat)(exit)"
    ∷ "(set-logic QF_BV)(assert (=> true))(check-sat)(exit)"
    ∷ "(set-logic QF_BV)(assert (true))(check-sat)(exit)"
    ∷ "(set-logic QF_BV)(declare-fun x () Bool)(assert (x))(check-sat)(exit)"
    ∷ "(set-logic QF_BV)(declare-fun x () Bool)(assert (x true))(check-sat)(exit)"
    ∷ "(set-logic QF_BV)(assert ())(check-sat)(exit)"
    ∷ "(set-logic QF_BV)(assert ((and) true true))(check-sat)(exit)"
    ∷ "(set-logic QF_BV)(assert let)(check-sat)(exit)"
    ∷ "(set-logic QF_BV)(assert True)(check-sat)(exit)"
    ∷ "(set-logic QF_BV)(frobnicate)(check-sat)(exit)"
    ∷ "(set-logic QF_BV)(assume true)(check-sat)(exit)"
    ∷ "(set-logic QF_BV)(ASSERT true)(check-sat)(exit)"
    ∷ "(set-logic QF_BV)assert true(check-sat)(exit)"
    ∷ "(set-logic QF_BV)()(check-sat)(exit)"
    ∷ "(set-logic QF_BV)(assert (= #b012 #b012))(check-sat)(exit)"
    ∷ "(set-logic QF_BV)(assert (= #xfg #xfg))(check-sat)(exit)"
    ∷ "(set-logic QF_BV)(assert (= #b #b))(check-sat)(exit)"
    ∷ "(set-logic QF_BV)(assert (= #x #x))(check-sat)(exit)"
    ∷ "(set-logic QF_BV)(assert (= #Xf #Xf))(check-sat)(exit)"
    ∷ "(set-logic QF_BV)(assert (= #d1 #d1))(check-sat)(exit)"
    ∷ "(set-logic QF_BV)(assert #)(check-sat)(exit)"
    ∷ "(set-logic QF_BV)(assert :)(check-sat)(exit)"
    ∷ "(set-logic QF_BV)(assert :true)(check-sat)(exit)"
    ∷ "(set-logic QF_BV)(assert \"true\")(check-sat)(exit)"
    ∷ "(set-logic QF_BV)(assert true)\"(check-sat)(exit)"
    ∷ "(set-logic QF_BV)(assert 1)(check-sat)(exit)"
    ∷ "(set-logic QF_BV)(assert 1.5)(check-sat)(exit)"
    ∷ "(set-logic QF_BV)(assert (= 12ab 12ab))(check-sat)(exit)"
    ∷ "(set-logic QF_BV)(assert [true])(check-sat)(exit)"
    ∷ "(set-logic QF_BV)(assert (and true, true))(check-sat)(exit)"
    ∷ "(set-logic QF_BV)(declare-fun x' () Bool)(assert true)(check-sat)(exit)"
    ∷ "(set-logic QF_BV)(declare-fun x\\y () Bool)(assert true)(check-sat)(exit)"
    ∷ "(set-logic QF_BV)(declare-fun café () Bool)(assert true)(check-sat)(exit)"
    ∷ "(set-logic QF_BV)(assert true\0)(check-sat)(exit)"
    ∷ "(set-logic QF_BV)\u{b}(assert true)(check-sat)(exit)"
    ∷ "(set-logic QF_BV)(declare-fun |x () Bool)(assert true)(check-sat)(exit)"
    ∷ "(set-logic QF_BV)(assert true ; )\n(check-sat)(exit)"
    ∷ "(set-logic QF_BV)(declare-fun x () (_ BitVec 0))(assert true)(check-sat)(exit)"
    ∷ "(set-logic QF_BV)(declare-fun x () (_ BitVec #x4))(assert true)(check-sat)(exit)"
    ∷ "(set-logic QF_BV)(declare-fun x () (_ BitVec))(assert true)(check-sat)(exit)"
    ∷ "(set-logic QF_BV)(declare-fun x () (_ BitVec 2 2))(assert true)(check-sat)(exit)"
    ∷ "(set-logic QF_BV)(declare-fun x () (BitVec 2))(assert true)(check-sat)(exit)"
    ∷ "(set-logic QF_BV)(declare-fun x () BitVec)(assert true)(check-sat)(exit)"
    ∷ "(set-logic QF_BV)(declare-fun x () Foo)(assert true)(check-sat)(exit)"
    ∷ "(set-logic QF_BV)(declare-fun x Bool)(assert x)(check-sat)(exit)"
    ∷ "(set-logic QF_BV)(declare-fun x () Bool Bool)(assert x)(check-sat)(exit)"
    ∷ "(set-logic QF_BV)(declare-fun)(assert true)(check-sat)(exit)"
    ∷ "(set-logic QF_BV)(declare-fun 7 () Bool)(assert true)(check-sat)(exit)"
    ∷ "(set-logic QF_BV)(declare-fun 7x () Bool)(assert true)(check-sat)(exit)"
    ∷ "(set-logic QF_BV)(declare-fun :x () Bool)(assert true)(check-sat)(exit)"
    ∷ "(set-logic QF_BV)(declare-fun #x1 () Bool)(assert true)(check-sat)(exit)"
    ∷ "(set-logic QF_BV)(declare-fun (x) () Bool)(assert true)(check-sat)(exit)"
    ∷ "(set-logic QF_BV)(declare-fun _ () Bool)(assert true)(check-sat)(exit)"
    ∷ "(set-logic QF_BV)(declare-fun as () Bool)(assert true)(check-sat)(exit)"
    ∷ "(set-logic)(assert true)(check-sat)(exit)"
    ∷ "(set-logic QF_BV QF_UFBV)(assert true)(check-sat)(exit)"
    ∷ "(set-logic QF_BV)(set-logic QF_BV)(assert true)(check-sat)(exit)"
    ∷ "(assert true)(set-logic QF_BV)(check-sat)(exit)"
    ∷ "(declare-fun x () Bool)(set-logic QF_BV)(assert x)(check-sat)(exit)"
    ∷ "(set-logic QF_BV)(assert)(check-sat)(exit)"
    ∷ "(set-logic QF_BV)(assert true true)(check-sat)(exit)"
    ∷ "(set-logic QF_BV)(assert true)(check-sat)(exit 0)"
    ∷ "(set-logic QF_BV)(assert (and true true)(check-sat)(exit)"
    ∷ "(set-logic QF_BV)(assert true)(check-sat)(exit"
    ∷ "(set-logic QF_BV)(assert (and true true)))(check-sat)(exit)"
    ∷ ")(set-logic QF_BV)(assert true)(check-sat)(exit)"
    ∷ "(set-option :produce-models)(set-logic QF_BV)(assert true)(check-sat)(exit)"
    ∷ "(set-option :produce-models maybe)(set-logic QF_BV)(assert true)(check-sat)(exit)"
    ∷ "(set-option :produce-models 1)(set-logic QF_BV)(assert true)(check-sat)(exit)"
    ∷ "(set-option :produce-models true true)(set-logic QF_BV)(assert true)(check-sat)(exit)"
    ∷ "(set-option produce-models true)(set-logic QF_BV)(assert true)(check-sat)(exit)"
    ∷ "(set-option :produce-model true)(set-logic QF_BV)(assert true)(check-sat)(exit)"
    ∷ "(set-option :produce-models false)(set-logic QF_BV)(declare-fun x () Bool)(assert x)(check-sat)(get-value (x))(exit)"
    ∷ "(set-option :produce-models true)(set-option :produce-models false)(set-logic QF_BV)(declare-fun x () Bool)(assert x)(check-sat)(get-value (x))(exit)"
    ∷ "(set-option :produce-models true)(set-logic QF_BV)(declare-fun x () Bool)(assert x)(get-value (x))(check-sat)(exit)"
    ∷ "(set-option :produce-models true)(set-logic QF_BV)(declare-fun x () Bool)(assert x)(check-sat)(get-value)(exit)"
    ∷ "(set-option :produce-models true)(set-logic QF_BV)(declare-fun x () Bool)(assert x)(check-sat)(get-value ())(exit)"
    ∷ "(set-option :produce-models true)(set-logic QF_BV)(declare-fun x () Bool)(assert x)(check-sat)(get-value x)(exit)"
    ∷ "(set-option :produce-models true)(set-logic QF_BV)(declare-fun x () Bool)(assert x)(check-sat)(get-value (x) (x))(exit)"
    ∷ "(set-option :produce-models true)(set-logic QF_BV)(declare-fun x () Bool)(assert x)(check-sat)(get-value (not x))(exit)"
    ∷ "(set-option :produce-models true)(set-logic QF_BV)(declare-fun x () Bool)(assert x)(check-sat)(get-value (x y))(exit)"
    ∷ "(set-option :produce-models true)(set-logic QF_BV)(declare-fun x () Bool)(assert x)(check-sat)(get-value ((bvadd x #b1)))(exit)"
    ∷ "(set-option :produce-models true)(set-logic QF_BV)(declare-fun x () Bool)(assert x)(check-sat)(get-value (x (not x x)))(exit)"
    ∷ []
