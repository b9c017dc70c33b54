-- Scripts of which z3, cvc5, SMT-LIB and the reading of crates/smtlib don't say the same (z3 -in; cvc5 --incremental --lang smt2 --strict-parsing). Written by tests/smtlib/vectors.rs from tests/smtlib/scripts.txt.
use Prim.Native.Nat.{ℕ}
use Prim.Native.String.{String}
use mathlib.Core.List.{List, [], ◌∷◌}

-- z3 accepts these, and cvc5 refuses them
abbrev pub by_z3 : List (String)
by_z3 =
    "(set-logic QF_BV)(assert (= #b1 (bvmul #b1)))(check-sat)(exit)"
    ∷ "(set-logic QF_BV)(assert (and true))(check-sat)(exit)"
    ∷ "(set-logic QF_BV)(assert (or true))(check-sat)(exit)"
    ∷ "(set-logic QF_BV)(assert (distinct true))(check-sat)(exit)"
    ∷ "(set-logic QF_BV)(assert and)(check-sat)(exit)"
    ∷ "(set-logic QF_BV)(assert true)(check-sat true)(exit)"
    ∷ "(set-logic QF_BV)(declare-fun x () (_ BitVec 08))(assert true)(check-sat)(exit)"
    ∷ "(set-logic QF_BV)(declare-fun |x\\y| () Bool)(assert true)(check-sat)(exit)"
    ∷ "(set-logic QF_BV)(|assert| true)(check-sat)(exit)"
    ∷ "(set-logic QF_BV)(declare-fun x () (Bool))(assert true)(check-sat)(exit)"
    ∷ "(set-logic QF_BV)(declare-fun let () Bool)(assert true)(check-sat)(exit)"
    ∷ "(set-logic QF_BV)(declare-fun ! () Bool)(assert true)(check-sat)(exit)"
    ∷ "(set-logic QF_BV)(declare-fun assert () Bool)(assert true)(check-sat)(exit)"
    ∷ "(set-logic QF_BV)(declare-fun exit () Bool)(assert true)(check-sat)(exit)"
    ∷ "(set-logic QF_BV)(declare-fun @x () Bool)(assert true)(check-sat)(exit)"
    ∷ "(set-logic QF_BV)(declare-fun .x () Bool)(assert true)(check-sat)(exit)"
    ∷ "(set-logic QF_BV)(declare-fun and () Bool)(assert true)(check-sat)(exit)"
    ∷ "(set-logic QF_BV)(declare-fun |true| () Bool)(assert true)(check-sat)(exit)"
    ∷ "(set-logic QF_BV)(declare-fun bvadd () Bool)(assert true)(check-sat)(exit)"
    ∷ "(set-logic QF_BV)(declare-fun concat () Bool)(assert true)(check-sat)(exit)"
    ∷ "(declare-fun x () Bool)(assert x)(check-sat)(exit)"
    ∷ "(set-option :produce-models true)(declare-fun x () Bool)(assert x)(check-sat)(exit)"
    ∷ "(set-logic QF_BV)(declare-fun x () Bool)(assert x)(set-option :produce-models true)(check-sat)(exit)"
    ∷ "(set-logic QF_BV)(declare-fun x () Bool)(assert x)(check-sat)(get-value (x))(exit)"
    ∷ []

-- cvc5 accepts these, and z3 refuses them
abbrev pub by_cvc5 : List (String)
by_cvc5 =
    "(set-logic QF_BV)\u{c}(assert true)(check-sat)(exit)"
    ∷ "(set-option :produce-models true)(set-logic QF_BV)(declare-fun x () Bool)(assert x)(check-sat)(assert x)(get-value (x))(check-sat)(exit)"
    ∷ []

-- both accept these, and SMT-LIB doesn't
abbrev pub against_standard : List (String)
against_standard =
    "(set-logic QF_BV)(declare-fun NUMERAL () Bool)(assert true)(check-sat)(exit)"
    ∷ "(set-logic QF_BV)(declare-fun x () Bool)(declare-fun x () (_ BitVec 2))(assert true)(check-sat)(exit)"
    ∷ "(set-logic QF_BV)(assert true)(check-sat)(exit))"
    ∷ "(set-logic QF_BV)(set-option :produce-models true)(declare-fun x () Bool)(assert x)(check-sat)(get-value (x))(exit)"
    ∷ "(set-option :produce-models true)(set-logic QF_BV)(declare-fun x () Bool)(assert x)(check-sat)(declare-fun y () Bool)(get-value (x))(exit)"
    ∷ "(set-option :produce-models true)(set-logic QF_BV)(declare-fun x () Bool)(assert x)(check-sat)(get-value (x))(declare-fun y () Bool)(get-value (y))(exit)"
    ∷ "(set-option :produce-models true)(set-logic QF_BV)(declare-fun x () Bool)(assert x)(check-sat)(get-value (x 1))(exit)"
    ∷ []

-- both accept these, as SMT-LIB does
abbrev pub not_read : List (String)
not_read =
    "\n"
    ∷ "(set-logic ALL)(assert true)(check-sat)(exit)"
    ∷ "(set-logic QF_LIA)(assert true)(check-sat)(exit)"
    ∷ "(set-logic QF_BV)"
    ∷ "(set-logic QF_BV)(assert true)(check-sat)"
    ∷ "(set-logic QF_BV)(assert true)(exit)"
    ∷ "(set-logic QF_BV)(assert true)(check-sat)(assert false)(exit)"
    ∷ "(set-logic QF_BV)(assert true)(check-sat)(exit)(assert false)"
    ∷ "(set-logic QF_UFBV)(declare-fun f (Bool) Bool)(assert (f true))(check-sat)(exit)"
    ∷ "(set-logic QF_BV)(declare-const x Bool)(assert x)(check-sat)(exit)"
    ∷ "(set-logic QF_BV)(assert (let ((x true)) x))(check-sat)(exit)"
    ∷ "(set-logic QF_BV)(assert (! true :named x))(check-sat)(exit)"
    ∷ "(set-logic QF_BV)(assert (= (_ bv2 2) #b10))(check-sat)(exit)"
    ∷ "(set-logic QF_BV)(assert (= ((_ extract 0 0) #b10) #b0))(check-sat)(exit)"
    ∷ "(set-logic QF_BV)(assert (= (bvudiv #b10 #b01) #b10))(check-sat)(exit)"
    ∷ "(set-logic QF_BV)(set-info :source \"a string\")(assert true)(check-sat)(exit)"
    ∷ "(set-logic QF_BV)(push 1)(assert true)(check-sat)(exit)"
    ∷ "(set-option :print-success false)(set-logic QF_BV)(assert true)(check-sat)(exit)"
    ∷ "(set-option :produce-models true)(set-logic QF_BV)(declare-fun x () Bool)(assert x)(check-sat)(get-value (x))(assert (not x))(exit)"
    ∷ []

-- z3 accepts these, as SMT-LIB does, and cvc5 refuses them; with every setting that z3 finds to satisfy them
abbrev pub read_with_z3 : List (String × List (List ℕ))
read_with_z3 =
    ("(set-logic QF_BV)(declare-fun |a\nb| () Bool)(assert |a\nb|)(check-sat)(exit)", (1 ∷ []) ∷ [])
    ∷ ("(set-option :produce-models |true|)(set-logic QF_BV)(declare-fun x () Bool)(assert x)(check-sat)(get-value (x))(exit)", (1 ∷ []) ∷ [])
    ∷ []

-- cvc5 accepts these, as SMT-LIB does, and z3 refuses them or leaves a question unanswered; with every setting that cvc5 finds to satisfy them
abbrev pub read_with_cvc5 : List (String × List (List ℕ))
read_with_cvc5 =
    ("(set-logic QF_BV);\r(declare-fun a () Bool)(assert (not a))(check-sat)(exit)", (0 ∷ []) ∷ [])
    ∷ []
