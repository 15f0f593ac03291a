-- What reads and writes, one after the other, gave and took.
use Rattle.std.proofs.Common.{◌≡◌, ℕ, ◌≤◌, List, ◌++◌, Option, None, Some, IfSome, length, take, drop, sym, ap, subst, ◌∙◌, arith, append-nil, append_assoc}
use Rattle.std.specs.Io.KnownBytes.{Consumes, Appends, IsAtEnd}
use Rattle.std.proofs.KnownBytes.{Consumes-trans, Appends-trans}
use lib.Seq.{take-append-le}
use Rattle.std.proofs.lemmas.List.{drop_all, take_all, take-append-drop, length-drop}
use Rattle.std.proofs.Math.Seq.{drop-append_seam}
use Rattle.hm_run_io.specs.Sources.{IsReadUp}
use Rattle.std.proofs.Common.{◌-◌}

-- one more read
pub consumes_more : (a b c : Option (List ℕ)) (held came new : List ℕ) → Consumes a b held → Consumes b c came → new ≡ held ++ came → Consumes a c new
consumes_more a b c held came new p q e = subst (Consumes a c) (sym e) (Consumes-trans a b c held came p q)

-- at the end all is held
pub held_at_end : (a c : Option (List ℕ)) (new : List ℕ) → Consumes a c new → IsAtEnd c → length new ≤ 1048577 → IfSome a (λ xs. new ≡ take 1048577 xs)
held_at_end None c new p q h = tt
held_at_end (Some xs) None new p q h = absurd p
held_at_end (Some xs) (Some ys) new p q h =
    let whole : xs ≡ new = p ∙ ap (λ l. new ++ l) q ∙ append-nil new in
    sym (ap (take 1048577) whole ∙ take_all 1048577 new h)

-- a source that is too long is held up to the limit
pub held_at_limit : (a c : Option (List ℕ)) (new : List ℕ) → Consumes a c new → length new ≡ 1048577 → IfSome a (λ xs. new ≡ take 1048577 xs)
held_at_limit None c new p h = tt
held_at_limit (Some xs) None new p h = absurd p
held_at_limit (Some xs) (Some ys) new p h =
    sym (ap (take 1048577) p ∙ take-append-le 1048577 new ys (omega arith) ∙ take_all 1048577 new (omega arith))

-- at the end nothing is left
pub left_at_end : (a c : Option (List ℕ)) (new : List ℕ) → Consumes a c new → IsAtEnd c → length new ≤ 1048577 → IsReadUp a c
left_at_end None c new p q h = tt
left_at_end (Some xs) None new p q h = absurd p
left_at_end (Some xs) (Some ys) new p q h =
    let whole : xs ≡ new = p ∙ ap (λ l. new ++ l) q ∙ append-nil new in
    ap Some (q ∙ sym (ap (drop 1048577) whole ∙ drop_all 1048577 new h))

-- at the limit all else is left
pub left_at_limit : (a c : Option (List ℕ)) (new : List ℕ) → Consumes a c new → length new ≡ 1048577 → IsReadUp a c
left_at_limit None c new p h = tt
left_at_limit (Some xs) None new p h = absurd p
left_at_limit (Some xs) (Some ys) new p h =
    ap Some (sym (ap (drop 1048577) p ∙ (ap (λ n. drop n (new ++ ys)) (sym h) ∙ drop-append_seam new ys)))

-- one more write
pub sends_more : (a b c : Option (List ℕ)) (text sent rest : List ℕ) (n : ℕ) → text ≡ sent ++ rest → Appends a b sent → Appends b c (take n rest)
    → (x : List ℕ) × (text ≡ x ++ take (length rest - n) (drop n rest)) × Appends a c x
sends_more a b c text sent rest n e p q =
    let left : take (length rest - n) (drop n rest) ≡ drop n rest = take_all _ _ (omega (arith, length-drop n rest)) in
    let whole : sent ++ rest ≡ (sent ++ take n rest) ++ drop n rest = ap (λ l. sent ++ l) (sym (take-append-drop n rest)) ∙ sym (append_assoc sent (take n rest) (drop n rest)) in
    (sent ++ take n rest, e ∙ whole ∙ ap (λ l. (sent ++ take n rest) ++ l) (sym left), Appends-trans a b c sent (take n rest) p q)
