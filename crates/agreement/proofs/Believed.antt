-- Replies: exactly those are believed that spell a failing case, and so a setting that satisfies the script; and what a variable's digits say. Assumes nothing.
use Prim.Native.Nat.{ℕ}
use mathlib.Core.Path.{◌≡◌, refl, sym, ap, ap₂, subst, ◌∙◌}
use mathlib.Core.List.{List, [], ◌∷◌, map}
use borrow.Author.Tests.{ltb-true}
use lib.Dec.{lit≤}
use lib.IntN.{ℤ}
use Rattle.std.specs.Prelude.{Ok}
use Rattle.numbers.specs.Two.{enc, dec}
use Rattle.numbers.proofs.Coding.{enc-dec, decs-encs}
use Rattle.layout.specs.Limits.{most_nodes}
use Rattle.layout.specs.Parts.{variable_count, rule_in}
use Rattle.smtlib.specs.Satisfaction.{Satisfies}
use Rattle.wording.specs.Form.{sixteen}
use Rattle.wording.specs.Script.{script}
use Rattle.forms.proofs.MeansMatch.{case-integers}
use Rattle.replies.specs.Says.{SpellsSetting, SpellsCase}
use Rattle.replies.proofs.NumberLaws.{Small, setting-small}
use Rattle.trial.specs.declared.Replied.TheVariants.{Fails}
use Rattle.trial.specs.Replies.{Replies}
use Rattle.trial.proofs.Believed.{accepted-spells, digits_value, digits-empty, failing-spelled}
use Rattle.agreement.specs.Statements as promise
use Rattle.agreement.specs.Statements.{setting_of}
use Rattle.agreement.proofs.Proved.{accepts, held, match}

pub replies-believed : promise.RepliesBelieved
replies-believed s h reply = accepted-spells s reply (accepts h)

pub cases-spelled : promise.CasesSpelled
cases-spelled s h c f = let w = failing-spelled s h.bytes (accepts h) c f in (w.0, w.1)

-- numbers of 16 bits are the two's complement of what they stand for
encs-decs : (t : List ℕ) → Small t → map (enc 16) (map (dec 16) t) ≡ t
encs-decs [] h = refl
encs-decs (n ∷ t) h = ap₂ ◌∷◌ (enc-dec 16 (lit≤ tt) n (ltb-true n _ h.0)) (encs-decs t h.1)

-- the setting that a reply spells is that of its case
spelled-setting : {v : ℕ} {reply : List ℕ} {c : List ℤ} (x : SpellsCase v reply c) → setting_of 16 c ≡ x.setting
spelled-setting x = ap (map (enc 16)) (sym x.case) ∙ encs-decs x.setting (setting-small x.spelled)

pub replies-satisfy : promise.RepliesSatisfy
replies-satisfy models s h reply = (to, from)
  where
    to : Replies most_nodes s reply (Ok Fails) → (t : List ℕ) × Satisfies (script (sixteen models) (rule_in s)) t × SpellsSetting (variable_count s) reply t
    to r =
        let w = (replies-believed s h reply).0 r in
        let x = w.2 in
        (x.setting, subst (Satisfies (script (sixteen models) (rule_in s))) (spelled-setting x) ((match models s h).satisfies w.0 w.1), x.spelled)

    from : (t : List ℕ) × Satisfies (script (sixteen models) (rule_in s)) t × SpellsSetting (variable_count s) reply t → Replies most_nodes s reply (Ok Fails)
    from w =
        let p = (match models s h).onto w.0 w.1 in
        let c = p.0 in
        let back : map (dec 16) w.0 ≡ c = ap (map (dec 16)) (sym p.2) ∙ decs-encs (lit≤ tt) c (case-integers (held h) p.1.0).each in
        (replies-believed s h reply).1 (c, p.1, record { setting = w.0; spelled = w.2; case = back })

pub digits-read : promise.DigitsRead
digits-read s reply part i p = (λ c g x. rw (p.given g).bytes (digits_value s reply.now g x), digits-empty p)
