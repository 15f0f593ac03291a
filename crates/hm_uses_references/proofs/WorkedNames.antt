-- Worked examples of names that mean the same.
use Rattle.std.proofs.Common.{◌≡◌, ℕ, zero, suc, List, [], ◌∷◌, false, true, ap, arith, inl, inr, length, refl, subst, sym}
use Rattle.std.specs.List.{Any}
use Rattle.hm_uses.specs.Uses.{Sense, local_variable, type_variable, an_entity, a_module, a_prefix, unbound, ambiguous}
use Rattle.hm_uses.specs.declared.name_kind.NameKind.TheVariants.{Constructor, ModuleName, TypeConstructor, Variable}
use Rattle.hm_uses_references.specs.References.{AreChosen, AreReferences}
use Rattle.hm_uses_references.specs.SetNames.{IsSame, SetName}
use Rattle.hm_uses_references.specs.Worked.{OthersRow, ReferencesRow, VariablesRow, at_column, declared_x, declared_y, header_A, header_B, import_A, letter_at, local_x, names, qualified_x, x_of_A}
use Rattle.hm_uses_references.specs.declared.finding.Reference.{Reference}
use Rattle.hm_uses_references.proofs.Referred.{one_list}

pub worked_variables : VariablesRow
worked_variables = record {
  qualified = record { kind = refl; sense = refl; shared = tt };
  not_local = λ h. let z : x_of_A ≡ local_variable 1 31 = h.sense in absurd (cc);
  local = record { kind = refl; sense = refl; shared = refl };
  not_elsewhere = λ h. let z : 0 ≡ 1 = h.shared in absurd (omega (arith, z));
}

-- the first byte of the name in a sense
abbrev first : List ℕ → ℕ
first [] = 0
first (c ∷ cs) = c

abbrev first_of : Sense → ℕ
first_of (local_variable l c) = 0
first_of (type_variable l c) = 0
first_of (an_entity e) = first e.name
first_of (a_module x) = first x
first_of (a_prefix x) = first x
first_of unbound = 0
first_of ambiguous = 0

x_not_y : ¬ (x_of_A ≡ declared_y.used.sense)
x_not_y z = let e : 120 ≡ 121 = ap first_of z in absurd (omega (arith, e))

modules_apart : ¬ (header_A.used.sense ≡ header_B.used.sense)
modules_apart z = let e : 65 ≡ 66 = ap first_of z in absurd (omega (arith, e))

pub worked_others : OthersRow
worked_others = record {
  not_type = λ h. let z : TypeConstructor ≡ Constructor = h.kind in absurd (cc);
  not_other = λ h. modules_apart h.sense;
  not_unbound = λ h. h.shared;
}

-- the only member of a list
only : (P : SetName → Type 0) (n : SetName) → Any P (n ∷ []) → P n
only P n (zero, x, within, is, p) = subst P (sym is) p
only P n (suc k, x, within, is, p) = absurd (omega (arith, within))

alone : (P : SetName → Type 0) (n : SetName) → P n → Any P (n ∷ [])
alone P n p = (0, n, omega arith, refl, p)

-- what means the same as the only member
abbrev IsMeant : SetName → SetName → Type 0
IsMeant m n = Any (λ o. IsSame o n) (m ∷ [])

without_kind : (m n : SetName) → ¬ (m.used.mention.kind ≡ n.used.mention.kind) → IsMeant m n → ⊥
without_kind m n apart h = apart (only (λ o. IsSame o n) m h).kind

without_sense : (m n : SetName) → ¬ (m.used.sense ≡ n.used.sense) → IsMeant m n → ⊥
without_sense m n apart h = apart (only (λ o. IsSame o n) m h).sense

no_module : ¬ (Variable ≡ ModuleName)
no_module z = absurd (cc)

x_not_local : ¬ (x_of_A ≡ local_variable 1 31)
x_not_local z = absurd (cc)

local_not_x : ¬ (local_variable 1 31 ≡ x_of_A)
local_not_x z = absurd (cc)

local_not_y : ¬ (local_variable 1 31 ≡ declared_y.used.sense)
local_not_y z = absurd (cc)

some_name : (m : SetName) (ms : List SetName) → ¬ (m ∷ ms ≡ [])
some_name m ms z = absurd (cc)

-- those of A.x
of_entity : AreChosen (IsMeant qualified_x) names (declared_x ∷ qualified_x ∷ [])
of_entity =
    inr (
      without_kind qualified_x header_A no_module,
      inl (
        alone (λ o. IsSame o declared_x) qualified_x (record { kind = refl; sense = refl; shared = tt }),
        (
          qualified_x ∷ [],
          (
            refl,
            inr (
              without_kind qualified_x header_B no_module,
              inr (
                without_kind qualified_x import_A no_module,
                inr (
                  without_sense qualified_x declared_y x_not_y,
                  inr (
                    without_sense qualified_x (local_x 1 31 true) x_not_local,
                    inr (
                      without_sense qualified_x (local_x 1 35 false) x_not_local,
                      inl (alone (λ o. IsSame o qualified_x) qualified_x (record { kind = refl; sense = refl; shared = tt }), ([], (refl, refl))),
                    ),
                  ),
                ),
              ),
            ),
          ),
        ),
      ),
    )

-- and of the local variable
of_local : AreChosen (IsMeant (local_x 1 31 true)) names (local_x 1 31 true ∷ local_x 1 35 false ∷ [])
of_local =
    let own = local_x 1 31 true in
    inr (
      without_kind own header_A no_module,
      inr (
        without_sense own declared_x local_not_x,
        inr (
          without_kind own header_B no_module,
          inr (
            without_kind own import_A no_module,
            inr (
              without_sense own declared_y local_not_y,
              inl (
                alone (λ o. IsSame o own) own (record { kind = refl; sense = refl; shared = refl }),
                (
                  local_x 1 35 false ∷ [],
                  (
                    refl,
                    inl (
                      alone (λ o. IsSame o (local_x 1 35 false)) own (record { kind = refl; sense = refl; shared = refl }),
                      (
                        [],
                        (
                          refl,
                          inr (without_sense own qualified_x local_not_x, refl),
                        ),
                      ),
                    ),
                  ),
                ),
              ),
            ),
          ),
        ),
      ),
    )

entity_references : AreReferences names 1 (at_column 37) (letter_at 0 18 true ∷ letter_at 1 39 false ∷ [])
entity_references = record { named = some_name qualified_x []; referred = (declared_x ∷ qualified_x ∷ [], (of_entity, refl)) }

abbrev spelled : List Reference
spelled = letter_at 0 18 true ∷ letter_at 1 31 true ∷ letter_at 1 35 false ∷ letter_at 1 39 false ∷ []

not_spelling : ¬ (AreReferences names 1 (at_column 37) spelled)
not_spelling h =
    let z : length spelled ≡ 2 = ap (λ (l : List Reference). length l) (one_list names 1 (at_column 37) spelled (letter_at 0 18 true ∷ letter_at 1 39 false ∷ []) h entity_references) in
    absurd (omega (arith, z))

pub worked_references : ReferencesRow
worked_references = record {
  of_entity = entity_references;
  of_local = record { named = some_name (local_x 1 31 true) []; referred = (local_x 1 31 true ∷ local_x 1 35 false ∷ [], (of_local, refl)) };
  not_spelling = not_spelling;
  none = refl;
}
