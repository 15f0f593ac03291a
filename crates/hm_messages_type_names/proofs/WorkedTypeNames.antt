-- The worked bare names of types.
use Rattle.std.proofs.Common.{◌≡◌, ◌∙◌, inl, ℕ, zero, suc, Bool, true, false, All, List, [], ◌∷◌, None, Contains, get_or, refl, sym, ap, subst, arith}
use Rattle.std.specs.Prelude.{codes, ◌||◌}
use Rattle.std.specs.List.{list_any}
use Rattle.hm_types.specs.declared.Entity.{Entity}
use Rattle.hm_types.specs.declared.entries.TypeEntry.{TypeEntry}
use Rattle.hm_types.specs.declared.entries.SynonymEntry.{SynonymEntry}
use Rattle.hm_types.specs.Interfaces.{Exports as Interface}
use Rattle.hm_types.specs.StandardPrelude.{prelude_interface}
use Rattle.hm_types_display.specs.Texts.{original_text}
use Rattle.hm_syntax.specs.Names.{Identifier}
use Rattle.hm_syntax.specs.declared.ast.Import.{Import}
use Rattle.hm_syntax.specs.declared.ast.ImportItem.{ImportItem}
use Rattle.hm_syntax.specs.declared.ast.ImportList.TheVariants as list
use Rattle.hm_names.specs.Entities.{a_data_type, own}
use Rattle.hm_names.specs.Scope.{Brings, Imports, InScope, Means, declared as declared_name, imported, every, only, hiding, written, added}
use Rattle.hm_names.specs.Texts.{same_text}
use Rattle.hm_names.specs.declared.namespace.Namespace.TheVariants.{Types}
use Rattle.hm_names.proofs.Meant.{text_decides}
use Rattle.hm_names.proofs.Members.{none_in}
use Rattle.hm_messages_type_names.specs.TypeNames.{IsBareName}
use Rattle.hm_messages_type_names.specs.WorkedTypeNames.{BareNameRow, at, bare_for, declared, module_M, no_prelude}

-- a test that no element passes
all_fail : {X : Type 0} (name : X → List ℕ) (x : List ℕ) (xs : List X) → list_any (λ t. same_text (name t) x) xs ≡ false → All (λ t. ¬ (name t ≡ x)) xs
all_fail name x [] e k d l = absurd (omega (arith, l))
all_fail name x (y ∷ ys) e zero d l = λ same. at (same_text (name y) x) e ((text_decides (name y) x).1 same)
  where
    at : (b : Bool) → (b || list_any (λ t. same_text (name t) x) ys) ≡ false → b ≡ true → ⊥
    at true q f = absurd (cc)
    at false q f = absurd (cc)
all_fail name x (y ∷ ys) e (suc k) d l = all_fail name x ys (at (same_text (name y) x) e) k d (omega (arith, l))
  where
    at : (b : Bool) → (b || list_any (λ t. same_text (name t) x) ys) ≡ false → list_any (λ t. same_text (name t) x) ys ≡ false
    at true q = absurd (cc)
    at false q = q

no_type : All (λ (t : TypeEntry). ¬ (t.name ≡ codes "T")) prelude_interface.types
no_type = all_fail (λ (t : TypeEntry). t.name) (codes "T") prelude_interface.types refl

no_synonym : All (λ (t : SynonymEntry). ¬ (t.name ≡ codes "T")) prelude_interface.synonyms
no_synonym = all_fail (λ (t : SynonymEntry). t.name) (codes "T") prelude_interface.synonyms refl

abbrev T : Identifier
T = at 43 (codes "T")

there : (fs : List Interface) → InScope module_M fs Types None (codes "T") (own module_M (codes "T"))
there fs = declared_name (record { declaration = declared; stands = (0, omega arith, refl); declares = a_data_type refl }) (inl refl) refl

-- the only import brings nothing
the_import : (i : Import) → Imports module_M i → i.list ≡ list.Only []
the_import i (written (zero, l, e)) = ap (λ (j : Import). j.list) (sym e)
the_import i (written (suc k, l, e)) = absurd (omega (arith, l))
the_import i (added none e) = absurd (none no_prelude (0, omega arith, refl) refl)

brings_none : (f : Interface) (i : Import) (e : Entity) → i.list ≡ list.Only [] → ¬ (Brings f i Types (codes "T") e)
brings_none f i e nothing (every so x) = absurd (cc)
brings_none f i e nothing (only {is} {j} so listed lists x) =
    let no_items : is ≡ [] = cc in
    none_in j (subst (λ (l : List ImportItem). Contains l j) no_items listed)
brings_none f i e nothing (hiding so x y) = absurd (cc)

alone : (fs : List Interface) (d : Entity) → InScope module_M fs Types None (codes "T") d → d ≡ own module_M (codes "T")
alone fs d (declared_name h q e) = e
alone fs d (imported {i} {f} h c n b q) = absurd (brings_none f i d (the_import i h) b)

own_name : (fs : List Interface) → IsBareName module_M fs (bare_for (codes "M.T"))
own_name fs = record {
  entity = own module_M (codes "T");
  name_is = refl;
  text_is = refl;
  written = T;
  bare = refl;
  named = refl;
  means = record { in_scope = there fs; alone = alone fs };
  no_type = no_type;
  no_synonym = no_synonym;
}

-- what T means is M.T
not_other : (fs : List Interface) (x : Identifier) (e : Entity) → x.qualifier ≡ None → x.text ≡ codes "T" → Means module_M fs Types x e → ¬ (codes "N.T" ≡ original_text e)
not_other fs x e bare named means text =
    let bound : InScope module_M fs Types x.qualifier x.text (own module_M (codes "T")) =
    subst (λ (q : _). InScope module_M fs Types q x.text (own module_M (codes "T"))) (sym bare) (subst (λ (t : List ℕ). InScope module_M fs Types None t (own module_M (codes "T"))) (sym named) (there fs)) in
    let is : own module_M (codes "T") ≡ e = means.alone (own module_M (codes "T")) bound in
    let same : codes "N.T" ≡ codes "M.T" = text ∙ sym (ap original_text is) in
    let first : 78 ≡ 77 = ap (λ (l : List ℕ). get_or l 0 0) same in
    absurd (omega (arith, first))

pub worked_bare_names : BareNameRow
worked_bare_names = record { own = own_name; other = λ fs h. not_other fs h.written h.entity h.bare h.named h.means h.text_is }
