-- The worked examples.
use Rattle.std.proofs.Common.{◌≡◌, ℕ, List, [], ◌∷◌, None, Some, true, false, inl, inr, ⊎_elim, refl, sym, ap, ◌∙◌, subst, arith, codes}
use Rattle.std.specs.List.{Contains}
use Rattle.hm_types.specs.declared.Entity.{Entity}
use Rattle.hm_types.specs.declared.entries.ValueEntry.{ValueEntry}
use Rattle.hm_types.specs.Interfaces.{Exports as Interface}
use Rattle.hm_syntax.specs.Names.{Identifier}
use Rattle.hm_syntax.specs.declared.ast.Export.{Export}
use Rattle.hm_syntax.specs.declared.ast.Export.TheVariants as export
use Rattle.hm_syntax.specs.declared.ast.Import.{Import}
use Rattle.hm_syntax.specs.declared.ast.ImportItem.{ImportItem}
use Rattle.hm_syntax.specs.declared.ast.ImportItem.TheVariants as item
use Rattle.hm_syntax.specs.declared.ast.ImportList.TheVariants as list
use Rattle.hm_syntax.specs.declared.ast.SubItems.{SubItems}
use Rattle.hm_syntax.specs.declared.ast.SubItems.TheVariants as subs
use Rattle.hm_names.specs.declared.namespace.Namespace.TheVariants.{Types, Values}
use Rattle.hm_names.specs.Entities.{Exports, a_type, a_synonym, a_value}
use Rattle.hm_names.specs.Faults.Exports as exporting
use Rattle.hm_names.specs.Faults.Imports as importing
use Rattle.hm_names.specs.Faults.Imports.{ImportFault, ListsItem, lists}
use Rattle.hm_names.specs.Scope.{IsUnbound, Brings, declared, every, hiding, imported, only, written}
use Rattle.hm_names.specs.Texts.{same_text}
use Rattle.hm_names.specs.Worked.{at, lists_zz, with_x, x}
use Rattle.hm_names.proofs.Meant.{text_decides}
use Rattle.hm_names.proofs.Members.{none_in, cases, first}
use Rattle.hm_uses.specs.declared.name_kind.NameKind.TheVariants.{Variable, Constructor}
use Rattle.hm_uses.specs.Uses.{HasItem, OfItem, exported_constructor, hidden, listed, listed_variable, no_constructor, not_exported, unbound}
use Rattle.hm_uses.specs.Uses as uses
use Rattle.hm_uses_faults.specs.Headers.{IsUnboundFault}
use Rattle.hm_uses_faults.specs.Worked
use Rattle.hm_uses_faults.specs.Worked.{exports_C, hides_zz, of_two, zz}
use Rattle.hm_uses_faults.proofs.Headers.{is_written}

differ : (a b : List ℕ) → same_text a b ≡ false → ¬ (a ≡ b)
differ a b f e = let z : false ≡ true = sym f ∙ (text_decides a b).1 e in cc

the_only : {X : Type 0} (a b : X) → Contains (a ∷ []) b → b ≡ a
the_only a b c = ⊎_elim (λ e. e) (λ o. absurd (none_in b o)) (cases a [] b c)

-- the interfaces are those of Prelude and B
one_of : {X : Type 0} (f : Interface) → Contains of_two f → (f ≡ with_x (codes "Prelude") → X) → (f ≡ with_x (codes "B") → X) → X
one_of f c p b = ⊎_elim p (λ o. b (the_only (with_x (codes "B")) f o)) (cases (with_x (codes "Prelude")) (with_x (codes "B") ∷ []) f c)

-- neither exports zz
no_zz : (y : List ℕ) (f : Interface) (e : Entity) → f ≡ with_x y → ¬ (Exports f zz e Values)
no_zz y f e is (a_value {r} c n d) =
    let here : Contains (with_x y).values r = subst (λ (g : Interface). Contains g.values r) is c in
    differ x zz refl (sym (ap (λ (v : ValueEntry). v.name) (the_only _ r here)) ∙ n)

missing : (i : Import) → OfItem of_two i Values zz unbound
missing i = not_exported (λ f e c n. one_of f c (λ p. no_zz (codes "Prelude") f e p) (λ b. no_zz (codes "B") f e b))

pub missing_row : Worked.MissingRow
missing_row = (
  (Variable, listed_variable (first _ []) (listed refl (1, omega arith, refl)) (missing _)),
  inr (inr (importing.a_value {f = with_x (codes "B")} (lists (written (first _ [])) (1, omega arith, refl) refl refl (1, omega arith, refl)) (λ e. no_zz (codes "B") (with_x (codes "B")) e refl))),
)

-- the list of the first example has no type
abbrev items : List ImportItem
items = item.Var (at 29 x) ∷ item.Var (at 32 zz) ∷ []

its_list : (i : Import) → Contains lists_zz.header.imports i → i.list ≡ list.Only items
its_list i c = ap (λ (k : Import). k.list) (the_only _ i c)

no_con : (i : Import) (n : Identifier) (s : SubItems) → Contains lists_zz.header.imports i → ¬ (HasItem i (item.Con n s))
no_con i n s w (listed {is} l c) = let z : list.Only is ≡ list.Only items = sym l ∙ its_list i w in let e : is ≡ items = cc in none (subst (λ k. Contains k (item.Con n s)) e c)
  where
    none : ¬ (Contains items (item.Con n s))
    none c = ⊎_elim (λ e. cc) (λ o. let e : item.Con n s ≡ item.Var (at 32 zz) = the_only _ _ o in cc) (cases (item.Var (at 29 x)) (item.Var (at 32 zz) ∷ []) (item.Con n s) c)
no_con i n s w (hidden {is} l c) = let z : list.Hiding is ≡ list.Only items = sym l ∙ its_list i w in cc

not_hiding : (i : Import) (is : List ImportItem) → Contains lists_zz.header.imports i → ¬ (i.list ≡ list.Hiding is)
not_hiding i is w l = let z : list.Hiding is ≡ list.Only items = sym l ∙ its_list i w in cc

pub exported_row : Worked.ExportedRow
exported_row u = go u.0 u.1
  where
    listed_there : (i : Import) → i.name.text ≡ codes "B" → ¬ (OfItem of_two i Values x unbound)
    listed_there i b (not_exported h) = h (with_x (codes "B")) _ (1, omega arith, refl) (sym b) (a_value (0, omega arith, refl) refl refl)

    go : (k : Rattle.hm_uses.specs.declared.name_kind.NameKind.NameKind) → ¬ (uses.InHeader lists_zz of_two (at 29 x) k false unbound)
    go k (uses.exported_variable h o) = let z : None ≡ Some h.0 = h.1.0 in cc
    go k (uses.exported_type h o) = let z : None ≡ Some h.0 = h.1.0 in cc
    go k (uses.exported_constructor h c o) = let z : None ≡ Some h.0 = h.1.0 in cc
    go k (uses.no_prefix h o) = let z : None ≡ Some h.0 = h.1.0 in cc
    go k (uses.listed_variable {i} c h o) = listed_there i (ap (λ (j : Import). j.name.text) (the_only _ i c)) o
    go k (uses.listed_type {i = i} {s = s} c h o) = no_con i (at 29 x) s c h
    go k (uses.listed_constructor {i = i} {k = t} {cs = cs} c h d o) = no_con i t (subs.Some cs) c h
    go k (uses.hidden_constructor {i = i} {is = is} c l h o) = not_hiding i is c l

-- Names after `hiding`

no_list : (i : Import) (is : List ImportItem) → i.list ≡ list.Hiding (item.Var (at 35 zz) ∷ []) → ¬ (i.list ≡ list.Only is)
no_list i is h o = let z : list.Hiding (item.Var (at 35 zz) ∷ []) ≡ list.Only is = sym h ∙ o in cc

no_item : {f : Interface} {j : ImportItem} → ¬ (ListsItem hides_zz of_two f j)
no_item (lists {i} {is} w c e l h) = no_list i is (ap (λ (k : Import). k.list) (the_only _ i (is_written is w l))) l

pub hidden_row : Worked.HiddenRow
hidden_row = ((Variable, listed_variable (first _ []) (hidden refl (first _ [])) (missing _)), go)
  where
    go : ¬ (IsUnboundFault hides_zz of_two (at 35 zz))
    go (inl f) = let z : None ≡ Some f.0 = f.1.0 in cc
    go (inr (inl f)) = let z : None ≡ Some f.0 = f.1.0 in cc
    go (inr (inr (importing.a_value l n))) = no_item l
    go (inr (inr (importing.a_type l n))) = no_item l
    go (inr (inr (importing.a_constructor l e c n))) = no_item l

-- Constructors of a type that isn't in scope

no_type : (y : List ℕ) (f : Interface) (t : List ℕ) (e : Entity) → f ≡ with_x y → ¬ (Exports f t e Types)
no_type y f t e is (a_type {r} c n d) = none_in r (subst (λ (g : Interface). Contains g.types r) is c)
no_type y f t e is (a_synonym {r} c n d) = none_in r (subst (λ (g : Interface). Contains g.synonyms r) is c)

brings_none : {f : Interface} {i : Import} {t : List ℕ} {e : Entity} → Contains of_two f → ¬ (Brings f i Types t e)
brings_none {f} {i} {t} {e} c b = go b
  where
    none : ¬ (Exports f t e Types)
    none = one_of f c (λ p. no_type (codes "Prelude") f t e p) (λ q. no_type (codes "B") f t e q)

    go : ¬ (Brings f i Types t e)
    go (every l h) = none h
    go (only l j k h) = none h
    go (hiding l k h) = none h

no_scope : (n : Identifier) → IsUnbound exports_C of_two Types n
no_scope n e (declared d q i) = none_in d.declaration d.stands
no_scope n e (imported w c s b q) = brings_none c b

pub type_row : Worked.TypeRow
type_row = inl (_, (refl, exporting.unbound_type (first _ []) (λ e. no_scope (at 11 (codes "T")) e)))

pub constructor_row : Worked.ConstructorRow
constructor_row = ((Constructor, exported_constructor (_, (refl, first _ [])) (first _ []) (no_constructor (λ t e w h. no_scope (at 11 (codes "T")) t w.in_scope))), go)
  where
    the_export : (es : List Export) → Some (export.Con (at 11 (codes "T")) (subs.Some (at 13 (codes "C") ∷ [])) ∷ []) ≡ Some es → (j : Export) → Contains es j → j ≡ export.Con (at 11 (codes "T")) (subs.Some (at 13 (codes "C") ∷ []))
    the_export es e j c = let z : es ≡ export.Con (at 11 (codes "T")) (subs.Some (at 13 (codes "C") ∷ [])) ∷ [] = cc in the_only _ j (subst (λ l. Contains l j) z c)

    text_of : Export → List ℕ
    text_of (export.Var n) = []
    text_of (export.Con n s) = n.text
    text_of (export.Whole n) = []

    go : ¬ (IsUnboundFault exports_C of_two (at 13 (codes "C")))
    go (inl (es, (e, exporting.unbound_value c h))) = let z = the_export es e _ c in cc
    go (inl (es, (e, exporting.unbound_type {s = s} c h))) = differ (codes "C") (codes "T") refl (ap text_of (the_export es e _ c))
    go (inl (es, (e, exporting.unbound_constructor {n = y} {t = t} c w k h))) = no_scope y t w.in_scope
    go (inr (inl (es, (e, exporting.not_imported c h)))) = let z = the_export es e _ c in cc
    go (inr (inr (importing.a_value (lists {i} {is} w c e l h) n))) = none_in i (is_written is w l)
    go (inr (inr (importing.a_type (lists {i} {is} w c e l h) n))) = none_in i (is_written is w l)
    go (inr (inr (importing.a_constructor (lists {i} {is} w c e l h) t d n))) = none_in i (is_written is w l)
