-- Worked modules in which two modules have a variable of one name.
use Rattle.std.proofs.Common.{◌≡◌, ℕ, List, [], ◌∷◌, None, Some, true, false, inl, ⊎_elim, refl, sym, ap, ◌∙◌, subst, arith, codes}
use Rattle.std.specs.List.{Contains}
use Rattle.hm_types.specs.declared.Entity.{Entity}
use Rattle.hm_types.specs.declared.entries.ValueEntry.{ValueEntry}
use Rattle.hm_types.specs.Interfaces.{Exports as Interface}
use Rattle.hm_types.specs.StandardPrelude.{prelude_interface}
use Rattle.hm_syntax.specs.declared.ast.Import.{Import}
use Rattle.hm_names.specs.declared.namespace.Namespace.TheVariants.{Values}
use Rattle.hm_names.specs.Entities.{Exports, a_value, named}
use Rattle.hm_names.specs.Scope.{InScope, imported, written, every}
use Rattle.hm_names.specs.Texts.{same_text}
use Rattle.hm_names.specs.Worked.{with_x, two_x, x}
use Rattle.hm_names.proofs.Meant.{text_decides}
use Rattle.hm_names.proofs.Members.{none_in, cases}
use Rattle.hm_uses.specs.Scopes.{top, first_declaration, clause_side, guarded, plain}
use Rattle.hm_uses.specs.Uses.{OfItem, exported, listed_variable, exported_variable, variable, global, several, one}
use Rattle.hm_uses.specs.Worked

-- two texts that differ
differ : (a b : List ℕ) → same_text a b ≡ false → ¬ (a ≡ b)
differ a b f e = let z : false ≡ true = sym f ∙ (text_decides a b).1 e in cc

-- An import list

the_only : {X : Type 0} (a b : X) → Contains (a ∷ []) b → b ≡ a
the_only a b c = ⊎_elim (λ e. e) (λ o. absurd (none_in b o)) (cases a [] b c)

abbrev both : List Interface
both = prelude_interface ∷ with_x (codes "B") ∷ []

-- the x that B exports isn't A's
other_x : (f : Interface) → f ≡ with_x (codes "B") → ¬ (Exports f x (named (codes "A") x) Values)
other_x f is (a_value {r} c n e) =
    let here : Contains (with_x (codes "B")).values r = subst (λ (g : Interface). Contains g.values r) is c in
    let of_b : r.entity ≡ named (codes "B") x = ap (λ (v : ValueEntry). v.entity) (the_only _ r here) in
    differ (codes "B") (codes "A") refl (ap (λ (d : Entity). d.«module») (sym of_b ∙ e))

not_exported : (i : Import) → i.name.text ≡ codes "B" → ¬ (OfItem both i Values x (Rattle.hm_uses.specs.Uses.an_entity (named (codes "A") x)))
not_exported i b (exported {f} c n e) = ⊎_elim
    (λ p. differ (codes "Prelude") (codes "B") refl (ap (λ (g : Interface). g.name) (sym p) ∙ (n ∙ b)))
    (λ o. other_x f (the_only (with_x (codes "B")) f o) e)
    (cases prelude_interface (with_x (codes "B") ∷ []) f c)

pub not_own : Worked.NotOwnRow
not_own (exported_variable h b) = let z : None ≡ Some h.0 = h.1.0 in cc
not_own (listed_variable {i} c h o) = not_exported i (ap (λ (j : Import). j.name.text) (the_only _ i c)) o

-- Two imports

abbrev three : List Interface
three = prelude_interface ∷ with_x (codes "A") ∷ with_x (codes "D") ∷ []

of_a : InScope two_x three Values None x (named (codes "A") x)
of_a = imported {f = with_x (codes "A")} (written (0, omega arith, refl)) (1, omega arith, refl) refl (every refl (a_value (0, omega arith, refl) refl refl)) (inl (refl, refl))

of_d : InScope two_x three Values None x (named (codes "D") x)
of_d = imported {f = with_x (codes "D")} (written (1, omega arith, refl)) (2, omega arith, refl) refl (every refl (a_value (0, omega arith, refl) refl refl)) (inl (refl, refl))

apart : ¬ (named (codes "D") x ≡ named (codes "A") x)
apart e = differ (codes "D") (codes "A") refl (ap (λ (d : Entity). d.«module») e)

pub two_entities : Worked.AmbiguousRow
two_entities = variable (plain (guarded (clause_side (first_declaration top)))) (global (λ l. none_in x l.1) (several (named (codes "D") x, (named (codes "A") x, (of_d, of_a, apart)))))

pub not_first : Worked.NotFirstRow
not_first (Rattle.hm_uses.specs.Uses.signed {xs = xs} {h = h} {ns = ns} {ty = ty} _ _ o) = elim o [ ]
not_first (variable i (global h (one w))) = apart (w.alone (named (codes "D") x) of_d)
