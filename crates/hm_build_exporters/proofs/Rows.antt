-- Numbers in rows, and statuses in a table.
use Rattle.std.proofs.Common.{◌≡◌, ◌∙◌, ◌++◌, All, ℕ, zero, suc, ◌<◌, Bool, false, true, ◌||◌, List, [], ◌∷◌, Contains, Option, None, Some, ap, arith, get_or, inl, inr, length, nat_eq, eq-eqb, refl, subst, sym}
use Rattle.std.specs.List.{list_any}
use Rattle.std.specs.Prelude.{IfSome, option_to_list}
use Rattle.std.proofs.lemmas.List.Elements.{All-append}
use Rattle.hm_lex.specs.declared.token.Place.{Place}
use Rattle.hm_types.specs.Interfaces.{Exports as Interface}
use Rattle.hm_syntax.specs.declared.ast.Module.{Module}
use Rattle.hm_names.proofs.Members.{cases, none_in}
use Rattle.hm_names.specs.declared.namespace.Namespace.{Namespace}
use Rattle.hm_verdicts.specs.Sets.{ModuleSet, imports_of, module_at}
use Rattle.hm_verdicts.specs.Verdicts.{Status, Published}
use Rattle.hm_build_reports.specs.Settling.{status_of, statuses_of}
use Rattle.hm_build_reports.specs.declared.statuses.Settled.{Settled}
use Rattle.hm_build_reports.specs.declared.statuses.Settled.TheVariants.{Skipped}
use Rattle.hm_messages_exporters.specs.Declarations.{IsDeclaredAt}
use Rattle.hm_messages_exporters.specs.Exported.{IsExported}
use Rattle.hm_build_exporters.specs.Having.{IsPrivate}

of_option : {X : Type 0} (P : X → Type 0) (o : Option X) → IfSome o P → All P (option_to_list o)
of_option P None h k d within = absurd (omega (arith, within))
of_option P (Some x) h zero d within = h
of_option P (Some x) h (suc k) d within = absurd (omega (arith, within))

-- one more element, if there is one
pub all_more : {X : Type 0} (P : X → Type 0) (xs : List X) (o : Option X) → All P xs → IfSome o P → All P (xs ++ option_to_list o)
all_more P xs o h s = All-append P xs (option_to_list o) h (of_option P o s)

neither : (a b : Bool) → (a || b) ≡ false → (a ≡ false) × (b ≡ false)
neither false b e = (refl, e)
neither true b e = absurd (cc)

pub not_among : (xs : List ℕ) (n : ℕ) → list_any (λ y. nat_eq y n) xs ≡ false → ¬ (Contains xs n)
not_among [] n e h = none_in n h
not_among (x ∷ xs) n e h =
    let both = neither (nat_eq x n) (list_any (λ y. nat_eq y n) xs) e in
    elim (cases x xs n h) [
      | inl same ↦ let yes : nat_eq x n ≡ true = eq-eqb x n (sym same) in absurd (cc)
      | inr later ↦ not_among xs n both.1 later
    ]

same_read : {X : Type 0} (xs : List X) (k : ℕ) (d e : X) → k < length xs → get_or xs k d ≡ get_or xs k e
same_read [] k d e l = absurd (omega arith)
same_read (x ∷ xs) zero d e l = refl
same_read (x ∷ xs) (suc k) d e l = same_read xs k d e (omega (arith, l))

-- a status that was read is that of the table
pub read_status : (settled : List Settled) (k : ℕ) (one : Settled) (f : Interface) → k < length settled → status_of (get_or settled k one) ≡ Published f → statuses_of settled k ≡ Published f
read_status settled k one f within published = ap status_of (same_read settled k Skipped one within) ∙ published

pub private_is : (p : ModuleSet) (status : ℕ → Status) (k : ℕ) (s : Namespace) (x : List ℕ) (f : Interface) (m : Module) (o : Option Place) → status k ≡ Published f → ¬ (IsExported f s x) → m ≡ module_at p k
    → IfSome o (IsDeclaredAt m s x) → IfSome o (λ place. (i : ℕ) → Contains (imports_of p i) k → IsPrivate p status i s x k place)
private_is p status k s x f m None published hidden is h = h
private_is p status k s x f m (Some place) published hidden is h = λ i imported. record {
  imported = imported;
  interface = f;
  published = published;
  not_exported = hidden;
  declared = subst (λ (n : Module). IsDeclaredAt n s x place) is h;
}
