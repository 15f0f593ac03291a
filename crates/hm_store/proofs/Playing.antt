-- A journal that is played again, and the places of calls that never fall.
use Rattle.std.proofs.Common.{◌≡◌, ℕ, suc, ◌+◌, ◌<◌, ◌≤◌, Bool, true, false, ◌&&◌, nat_le, List, [], ◌∷◌, length, get_or, drop, set, refl, sym, ap, ◌∙◌, arith, drop-cons, le-leb, leb-true}
use Rattle.std.proofs.lemmas.Bool.{and_parts, false≢true}
use Rattle.std.proofs.lemmas.List.{length-set, length-replicate}
use Rattle.hm_store.specs.Plans.{Given, dependents_of}
use Rattle.hm_store.specs.Objects.{State, after, state_from, state_after, opening}
use Rattle.hm_store.specs.Records.{rises, known_after}
use Rattle.hm_store.specs.declared.object.Status.TheVariants.{Waiting, Claimed, Published, Failed}
use Rattle.hm_store.specs.declared.object.Entry.{Entry}
use Rattle.hm_store.specs.declared.object.Entry.TheVariants.{Claim, Publish, Fail, Stop}
use Rattle.hm_store.specs.declared.record.Call.{Call}
use Rattle.hm_store.proofs.Skipping.{length-skips}

length-after : (g : Given) (s : State) (e : Entry) → length (after g s e).statuses ≡ length s.statuses
length-after g s (Claim w m) = length-set s.statuses m (Claimed w)
length-after g s (Publish w m) = length-set s.statuses m Published
length-after g s (Fail w m) = length-skips (dependents_of g m) (set s.statuses m Failed) ∙ length-set s.statuses m Failed
length-after g s (Stop w) = refl

length-from : (g : Given) (s : State) (es : List Entry) → length (state_from g s es).statuses ≡ length s.statuses
length-from g s [] = refl
length-from g s (e ∷ es) = length-from g (after g s e) es ∙ length-after g s e

-- the number of statuses never changes
pub length-state : (g : Given) (es : List Entry) → length (state_after g es).statuses ≡ length g.imports
length-state g es = length-from g (opening g) es ∙ length-replicate (length g.imports) Waiting

pub played_length : (g : Given) (es : List Entry) (s : State) → s ≡ state_after g es → length s.statuses ≡ length g.imports
played_length g es s e = ap (λ t. length t.statuses) e ∙ length-state g es

both : (a b : Bool) → a ≡ true → b ≡ true → (a && b) ≡ true
both true b p q = q
both false b p q = absurd (false≢true p)

rises_parts : (n : ℕ) (c : Call) (cs : List Call) → rises n (c ∷ cs) ≡ true → (n ≤ c.at) × (rises (known_after c) cs ≡ true)
rises_parts n c cs h = let p = and_parts (nat_le n c.at) (rises (known_after c) cs) h in (leb-true n c.at p.0, p.1)

-- who knows of less has no call too early either
pub rises_less : (n m : ℕ) (cs : List Call) → m ≤ n → rises n cs ≡ true → rises m cs ≡ true
rises_less n m [] le h = refl
rises_less n m (c ∷ cs) le h = let p = rises_parts n c cs h in both (nat_le m c.at) (rises (known_after c) cs) (le-leb m c.at (omega (arith, le, p.0))) p.1

-- the next call isn't before what was played, and the rest isn't before its place
pub rises_next : (n k : ℕ) (cs : List Call) (c : Call) → k < length cs → c ≡ get_or cs k c → rises n (drop k cs) ≡ true → (n ≤ c.at) × (rises c.at (drop (k + 1) cs) ≡ true)
rises_next n k cs c lt is h =
    let one : suc k ≡ k + 1 = omega arith in
    let e : drop k cs ≡ c ∷ drop (k + 1) cs = drop-cons cs k c lt ∙ (ap (λ x. x ∷ drop (suc k) cs) (sym is) ∙ ap (λ n. c ∷ drop n cs) one) in
    let p = rises_parts n c (drop (k + 1) cs) (ap (rises n) (sym e) ∙ h) in
    (p.0, rises_less (known_after c) c.at (drop (k + 1) cs) (omega arith) p.1)
