-- Tables of settled modules.
use Rattle.std.proofs.Common.{◌≡◌, ℕ, ◌+◌, ◌<◌, ◌≤◌, List, [], ◌∷◌, ◌++◌, length, get_or, None, sym, ap, ◌∙◌, subst, arith, inl, inr}
use Rattle.std.proofs.Math.Path.{fun_ext}
use Rattle.std.specs.Arc.{arc_value}
use Rattle.std.specs.declared.alloc.Global.{Global}
use Rattle.std.specs.declared.sync.Arc.{Arc}
use Rattle.std.proofs.lemmas.Bool.{cases_lt}
use Rattle.std.proofs.lemmas.List.{length-map, get_or_append_left, get_or_push, get_or_past}
use Rattle.std.proofs.lemmas.List.Elements.{Contains-get_or}
use Rattle.hm_syntax.specs.declared.ast.Module.{Module}
use Rattle.hm_typing.specs.Names.{IsOneOf}
use Rattle.hm_verdicts.proofs.Lists.{one_of_contained}
use Rattle.hm_verdicts.proofs.ImportOrder.{import_in}
use Rattle.hm_verdicts.specs.Sets.{IsLawfulSet}
use Rattle.hm_verdicts.specs.Verdicts as verdicts
use Rattle.hm_store.specs.Builds.{Build, IsLegal}
use Rattle.hm_store.specs.Settlements.{settlement, settlement_with}
use Rattle.hm_build_reports.specs.Settling.{module_set, status_of, statuses_of}
use Rattle.hm_build_reports.specs.declared.statuses.Settled.{Settled}
use Rattle.hm_build_reports.specs.declared.statuses.Settled.TheVariants.{Skipped}

-- one more module of a table
pub table_more : (f : ℕ → verdicts.Status) (olds news : List Settled) (s : Settled) (n : ℕ) → news ≡ olds ++ s ∷ [] → length olds ≡ n → ((k : ℕ) → k < n → statuses_of olds k ≡ f k) → status_of s ≡ f n → (k : ℕ) → k < n + 1 → statuses_of news k ≡ f k
table_more f olds news s n pushed long before here k l = elim (cases_lt k n) [
  | inl low ↦ ap (λ t. statuses_of t k) pushed ∙ (ap status_of (get_or_append_left olds (s ∷ []) Skipped k (omega (arith, low, long))) ∙ before k low)
  | inr high ↦ let same : k ≡ n = omega (arith, high, l) in
      ap (λ t. statuses_of t k) pushed ∙ (ap status_of (get_or_push olds s Skipped k (long ∙ sym same)) ∙ (here ∙ ap f (sym same)))
]

-- a table of all modules of a legal build says what the build came to
pub table_whole : (b : Build) (table : List Settled) (n : ℕ) → IsLegal b → length b.modules ≤ n → length table ≡ n → ((k : ℕ) → k < n → statuses_of table k ≡ settlement b k) → statuses_of table ≡ settlement b
table_whole b table n legal whole long each = fun_ext (λ k. elim (cases_lt k n) [
  | inl low ↦ each k low
  | inr past ↦ ap status_of (get_or_past table k Skipped (omega (arith, past, long))) ∙ sym (ap settlement_with (get_or_past b.kept k None (omega (arith, past, whole, legal.count))))
])

-- the imports of a module of a lawful set
pub row_inside : (modules : List (Arc Module Global)) (plan : List (List ℕ)) (i : ℕ) (row : List ℕ) → IsLawfulSet (module_set modules plan) → i < length modules → row ≡ get_or plan i [] → (k d : ℕ) → k < length row → get_or row k d < length modules
row_inside modules plan i row law l e k d h =
    subst (λ n. get_or row k d < n) (length-map modules arc_value)
    (import_in (module_set modules plan) law i (get_or row k d) (subst (λ n. i < n) (sym (length-map modules arc_value)) l)
    (subst (λ js. IsOneOf (get_or row k d) js) e (one_of_contained row (get_or row k d) (Contains-get_or row k d h))))
