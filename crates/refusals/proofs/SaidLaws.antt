-- What an answer says decides the answer; a refusal is its number and its place; and when a row refuses. Assumes nothing.
use Prim.Native.Nat.{ℕ}
use mathlib.Core.Path.{◌≡◌, refl, sym, ap, ◌∙◌}
use mathlib.Core.Bool.{Bool, true, false}
use mathlib.Core.Option.{Option, none, some}
use native.Mathlib.Omega.{arith}
use Rattle.std.specs.Prelude.{Result, Ok, Err}
use Rattle.refusals.specs.declared.Cause.{Cause}
use Rattle.refusals.specs.declared.Cause.TheVariants.{Length, Check, Edition, Counts, Variable, Node, Sort, Range, Room, Cases, Reply, Value, Holds, Text, Word}
use Rattle.refusals.specs.declared.Refused.{Refused}
use Rattle.refusals.specs.declared.Refusal.{Refusal}
use Rattle.refusals.specs.Causes.{number_of, refusal_of, caused_by}
use Rattle.refusals.specs.Said.{said_of, unless}

-- every cause has its number
pub caused-by-number : (c : Cause) → caused_by (number_of c) ≡ some c
caused-by-number Length = refl
caused-by-number Check = refl
caused-by-number Edition = refl
caused-by-number Counts = refl
caused-by-number Variable = refl
caused-by-number Node = refl
caused-by-number Sort = refl
caused-by-number Range = refl
caused-by-number Room = refl
caused-by-number Cases = refl
caused-by-number Reply = refl
caused-by-number Value = refl
caused-by-number Holds = refl
caused-by-number Text = refl
caused-by-number Word = refl

-- and no other cause has it
pub same-cause : (c d : Cause) → number_of c ≡ number_of d → c ≡ d
same-cause c d e = let h = sym (caused-by-number c) ∙ ap caused_by e ∙ caused-by-number d in cc

-- an error is what document 01 tells of it
pub same-refused : (e d : Refused) → refusal_of e ≡ refusal_of d → e ≡ d
same-refused e d h =
    let c = same-cause e.cause d.cause (ap (λ (r : Refusal). r.number) h) in
    let p = ap (λ (r : Refusal). r.place) h in
    λ i. record { cause = c i; place = p i }

-- said_of is injective
pub said-injective : (r t : Result Unit Refused) → said_of r ≡ said_of t → r ≡ t
said-injective (Ok u) (Ok v) e = refl
said-injective (Ok u) (Err d) e = absurd (let z : ◌≡◌ {A = ℕ} 0 1 = cc in omega arith)
said-injective (Err c) (Ok v) e = absurd (let z : ◌≡◌ {A = ℕ} 0 1 = cc in omega arith)
said-injective (Err c) (Err d) e = ap Err (same-refused c d cc)

-- no second answer says the same
pub said-once : {x : Option Refusal} (r t : Result Unit Refused) → said_of r ≡ x → said_of t ≡ x → r ≡ t
said-once r t e d = said-injective r t (e ∙ sym d)

-- a refusal is its number and its place
pub same-refusal : {r q : Refusal} → r.number ≡ q.number → r.place ≡ q.place → r ≡ q
same-refusal e d = λ i. record { number = e i; place = d i }

-- a row is silent exactly where its demand is met
pub unless-none : (b : Bool) (n p : ℕ) → unless b n p ≡ none → b ≡ true
unless-none true n p e = refl
unless-none false n p e = absurd (let z : ◌≡◌ {A = ℕ} 0 1 = cc in omega arith)

pub unless-true : {b : Bool} (n p : ℕ) → b ≡ true → unless b n p ≡ none
unless-true n p e = rw e

pub unless-false : {b : Bool} (n p : ℕ) → b ≡ false → unless b n p ≡ some (record { number = n; place = p })
unless-false n p e = rw e

pub unless-some : (b : Bool) (n p : ℕ) {r : Refusal} → unless b n p ≡ some r → (b ≡ false) × (r ≡ record { number = n; place = p })
unless-some true n p e = absurd (let z : ◌≡◌ {A = ℕ} 0 1 = cc in omega arith)
unless-some false n p e = (refl, cc)
