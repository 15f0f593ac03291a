-- Fronts of a list, and runs at its front.
use Rattle.std.proofs.Common.{◌≡◌, ℕ, suc, ◌≤◌, Bool, true, false, List, [], ◌∷◌, ◌++◌, length, take, drop, refl, sym, ap, ◌∙◌, subst, arith, take-append-drop}
use Rattle.std.proofs.lemmas.List.Sums.{prefix_len-le-length}
use Rattle.std.specs.Prelude.{IsTrue}
use Rattle.std.specs.List.{AllByRecursion, prefix_len}
use Rattle.hm_lex.specs.Cut.{Begins}
use Rattle.hm_lex.specs.Runs.{IsRunOf, FirstFails}

abbrev pub IsPrefix : List ℕ → List ℕ → Type 0
IsPrefix [] bytes = Unit {0}
IsPrefix (x ∷ xs) [] = ⊥
IsPrefix (x ∷ xs) (y ∷ ys) = (x ≡ y) × IsPrefix xs ys

pub prefix_of_append : (t rest : List ℕ) → IsPrefix t (t ++ rest)
prefix_of_append [] rest = tt
prefix_of_append (x ∷ xs) rest = (refl, prefix_of_append xs rest)

pub prefix_from : (t bytes : List ℕ) → Begins t bytes → IsPrefix t bytes
prefix_from t bytes (rest, e) = subst (λ (b : List ℕ). IsPrefix t b) e (prefix_of_append t rest)

pub begins_from : (t bytes : List ℕ) → IsPrefix t bytes → Begins t bytes
begins_from [] bytes p = (bytes, refl)
begins_from (x ∷ xs) [] p = absurd p
begins_from (x ∷ xs) (y ∷ ys) p = let r = begins_from xs ys p.1 in (r.0, cc)

pub begins_take : (n : ℕ) (bytes : List ℕ) → Begins (take n bytes) bytes
begins_take n bytes = (drop n bytes, take-append-drop n bytes)

-- two fronts of one list with one length are one
pub same_length_prefix : (t u bytes : List ℕ) → IsPrefix t bytes → IsPrefix u bytes → length t ≡ length u → t ≡ u
same_length_prefix [] [] bytes p q e = refl
same_length_prefix [] (y ∷ ys) bytes p q e = absurd (omega arith)
same_length_prefix (x ∷ xs) [] bytes p q e = absurd (omega arith)
same_length_prefix (x ∷ xs) (y ∷ ys) [] p q e = absurd p
same_length_prefix (x ∷ xs) (y ∷ ys) (b ∷ bs) p q e =
    let tails : xs ≡ ys = same_length_prefix xs ys bs p.1 q.1 (omega arith) in
    let heads : x ≡ y = p.0 ∙ sym q.0 in
    cc

pub prefix_length : (t bytes : List ℕ) → IsPrefix t bytes → length t ≤ length bytes
prefix_length [] bytes p = omega arith
prefix_length (x ∷ xs) [] p = absurd p
prefix_length (x ∷ xs) (y ∷ ys) p = let r : length xs ≤ length ys = prefix_length xs ys p.1 in omega arith

-- what a front of a front leaves
pub prefix_after : (t u bytes : List ℕ) → IsPrefix (t ++ u) bytes → IsPrefix u (drop (length t) bytes)
prefix_after [] u bytes p = p
prefix_after (x ∷ xs) u [] p = absurd p
prefix_after (x ∷ xs) u (y ∷ ys) p = prefix_after xs u ys p.1

pub prefix_front : (t u bytes : List ℕ) → IsPrefix (t ++ u) bytes → IsPrefix t bytes
prefix_front [] u bytes p = tt
prefix_front (x ∷ xs) u [] p = absurd p
prefix_front (x ∷ xs) u (y ∷ ys) p = (p.0, prefix_front xs u ys p.1)

pub prefix_join : (t u bytes : List ℕ) → IsPrefix t bytes → IsPrefix u (drop (length t) bytes) → IsPrefix (t ++ u) bytes
prefix_join [] u bytes p q = q
prefix_join (x ∷ xs) u [] p q = absurd p
prefix_join (x ∷ xs) u (y ∷ ys) p q = (p.0, prefix_join xs u ys p.1 q)

-- ---- runs

module _ (test : ℕ → Bool) where
  -- a front that passes is no longer than the run
  pub run_bound : (t bytes : List ℕ) → AllByRecursion (λ b. IsTrue (test b)) t → IsPrefix t bytes → length t ≤ prefix_len test bytes
  run_bound [] bytes a p = omega arith
  run_bound (x ∷ xs) [] a p = absurd p
  run_bound (x ∷ xs) (y ∷ ys) a p =
      let r : length xs ≤ prefix_len test ys = run_bound xs ys a.1 p.1 in
      let passes : test y ≡ true = subst (λ (b : ℕ). test b ≡ true) p.0 a.0 in
      rw passes (omega arith)

  pub run_more : (b : ℕ) (bs : List ℕ) → test b ≡ true → prefix_len test (b ∷ bs) ≡ suc (prefix_len test bs)
  run_more b bs e = rw e (omega arith)

  pub run_none : (b : ℕ) (bs : List ℕ) → test b ≡ false → prefix_len test (b ∷ bs) ≡ 0
  run_none b bs e = rw e refl

  run_passes_step : (b : ℕ) (bs : List ℕ) (answer : Bool) → test b ≡ answer
      → AllByRecursion (λ c. IsTrue (test c)) (take (prefix_len test bs) bs) → AllByRecursion (λ c. IsTrue (test c)) (take (prefix_len test (b ∷ bs)) (b ∷ bs))
  run_passes_step b bs true e rest = subst (λ (n : ℕ). AllByRecursion (λ c. IsTrue (test c)) (take n (b ∷ bs))) (sym (run_more b bs e)) (e, rest)
  run_passes_step b bs false e rest = subst (λ (n : ℕ). AllByRecursion (λ c. IsTrue (test c)) (take n (b ∷ bs))) (sym (run_none b bs e)) tt

  pub run_passes : (bytes : List ℕ) → AllByRecursion (λ b. IsTrue (test b)) (take (prefix_len test bytes) bytes)
  run_passes [] = tt
  run_passes (b ∷ bs) = run_passes_step b bs (test b) refl (run_passes bs)

  run_stops_step : (b : ℕ) (bs : List ℕ) (answer : Bool) → test b ≡ answer
      → FirstFails test (drop (prefix_len test bs) bs) → FirstFails test (drop (prefix_len test (b ∷ bs)) (b ∷ bs))
  run_stops_step b bs true e rest = subst (λ (n : ℕ). FirstFails test (drop n (b ∷ bs))) (sym (run_more b bs e)) rest
  run_stops_step b bs false e rest = subst (λ (n : ℕ). FirstFails test (drop n (b ∷ bs))) (sym (run_none b bs e)) e

  -- what follows the run doesn't pass
  pub run_stops : (bytes : List ℕ) → FirstFails test (drop (prefix_len test bytes) bytes)
  run_stops [] = tt
  run_stops (b ∷ bs) = run_stops_step b bs (test b) refl (run_stops bs)

  pub run_le : (bytes : List ℕ) → prefix_len test bytes ≤ length bytes
  run_le bytes = prefix_len-le-length test bytes

  -- a run that a front ends, by a byte that fails, is the whole run
  pub run_whole : (ds : List ℕ) (c : ℕ) (more bytes : List ℕ) → AllByRecursion (λ b. IsTrue (test b)) ds → test c ≡ false → IsPrefix (ds ++ c ∷ more) bytes → length ds ≡ prefix_len test bytes
  run_whole [] c more [] a f p = absurd p
  run_whole [] c more (y ∷ ys) a f p = sym (run_none y ys (subst (λ (b : ℕ). test b ≡ false) p.0 f))
  run_whole (d ∷ ds) c more [] a f p = absurd p
  run_whole (d ∷ ds) c more (y ∷ ys) a f p =
      ap suc (run_whole ds c more ys a.1 f p.1) ∙ sym (run_more y ys (subst (λ (b : ℕ). test b ≡ true) p.0 a.0))

  -- a run begins where the first byte passes
  pub run_begins : (b : ℕ) (bs : List ℕ) → test b ≡ true → IsRunOf test (take (prefix_len test (b ∷ bs)) (b ∷ bs))
  run_begins b bs e = subst (λ (n : ℕ). IsRunOf test (take n (b ∷ bs))) (sym (run_more b bs e)) (e, run_passes bs)
