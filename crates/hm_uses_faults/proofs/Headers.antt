-- A name of a header is a fault exactly if its use says so.
use Rattle.std.proofs.Common.{◌≡◌, ◌⊎◌, ℕ, List, [], ◌∷◌, ◌++◌, Some, false, inl, inr, map, ⊎_elim, refl, sym, ap, ◌∙◌, subst}
use Rattle.std.specs.List.{Contains}
use Rattle.std.proofs.lemmas.List.{map-append}
use Rattle.std.proofs.lemmas.List.Elements.{Contains-append_left as left, Contains-append_right as right}
use Rattle.hm_types.specs.declared.Entity.{Entity}
use Rattle.hm_types.specs.declared.entries.TypeEntry.{TypeEntry}
use Rattle.hm_types.specs.declared.entries.SynonymEntry.{SynonymEntry}
use Rattle.hm_types.specs.Interfaces.{Exports as Interface}
use Rattle.hm_syntax.specs.Names.{Identifier}
use Rattle.hm_syntax.specs.declared.ast.Module.{Module}
use Rattle.hm_syntax.specs.declared.ast.Export.{Export}
use Rattle.hm_syntax.specs.declared.ast.Export.TheVariants as export
use Rattle.hm_syntax.specs.declared.ast.Import.{Import}
use Rattle.hm_syntax.specs.declared.ast.ImportItem.{ImportItem}
use Rattle.hm_syntax.specs.declared.ast.ImportItem.TheVariants as item
use Rattle.hm_syntax.specs.declared.ast.ImportList.TheVariants as list
use Rattle.hm_syntax.specs.declared.ast.SubItems.{SubItems}
use Rattle.hm_syntax.specs.declared.ast.SubItems.TheVariants as subs
use Rattle.hm_names.specs.declared.namespace.Namespace.TheVariants.{Types, Values}
use Rattle.hm_names.specs.declared.faults.Kind.TheVariants.{Unbound, Ambiguous, NotExported, NotImported}
use Rattle.hm_names.specs.Entities.{Exports, Belongs, a_type, a_synonym}
use Rattle.hm_names.specs.Faults.Exports as exporting
use Rattle.hm_names.specs.Faults.Exports.{ExportFault}
use Rattle.hm_names.specs.Faults.Imports as importing
use Rattle.hm_names.specs.Faults.Imports.{ImportFault, ListsItem, lists}
use Rattle.hm_names.specs.Faults.Phases.{FaultAt, Exporting}
use Rattle.hm_names.specs.Scope.{IsUnbound, IsAmbiguous, Means, Imports, written, added}
use Rattle.hm_names.proofs.Existence.{has_meaning}
use Rattle.hm_names.proofs.Members.{none_in, cases, first, rest, text_discrete}
use Rattle.hm_uses.specs.declared.name_kind.NameKind.{NameKind}
use Rattle.hm_uses.specs.declared.name_kind.NameKind.TheVariants.{Variable, Constructor, TypeConstructor, ModuleName}
use Rattle.hm_uses.specs.Mentions.{Mention, mentions, hidden_mentions, all_hidden_mentions}
use Rattle.hm_uses.specs.Uses.{HasExport, HasItem, InHeader, OfItem, OfSubItem, Owns, ByScope, ambiguous, unbound, no_entity, several, no_constructor}
use Rattle.hm_uses.specs.Uses as uses
use Rattle.hm_uses_faults.specs.Headers.{HasNoFault, HeaderFaults, IsUnboundFault, IsUsedInHeader, hidden, of_exported, of_listed}
use Rattle.hm_uses_faults.proofs.Interfaces.{IsOneNamed, has_interface}

-- Whether an interface exports a type

abbrev ExportsType : Interface → List ℕ → Type 0
ExportsType f x = (e : Entity) × Exports f x e Types

type_entry : (x : List ℕ) (rs : List TypeEntry) → Dec ((r : TypeEntry) × (Contains rs r × (r.name ≡ x)))
type_entry x [] = no (λ h. none_in h.0 h.1.0)
type_entry x (r ∷ rs) = go (text_discrete r.name x) (type_entry x rs)
  where
    go : Dec (r.name ≡ x) → Dec ((s : TypeEntry) × (Contains rs s × (s.name ≡ x))) → Dec ((s : TypeEntry) × (Contains (r ∷ rs) s × (s.name ≡ x)))
    go (yes e) d = yes (r, (first r rs, e))
    go (no e) (yes h) = yes (h.0, (rest r rs h.0 h.1.0, h.1.1))
    go (no e) (no d) = no (λ h. ⊎_elim (λ s. e (subst (λ (t : TypeEntry). t.name ≡ x) s h.1.1)) (λ o. d (h.0, (o, h.1.1))) (cases r rs h.0 h.1.0))

synonym_entry : (x : List ℕ) (rs : List SynonymEntry) → Dec ((r : SynonymEntry) × (Contains rs r × (r.name ≡ x)))
synonym_entry x [] = no (λ h. none_in h.0 h.1.0)
synonym_entry x (r ∷ rs) = go (text_discrete r.name x) (synonym_entry x rs)
  where
    go : Dec (r.name ≡ x) → Dec ((s : SynonymEntry) × (Contains rs s × (s.name ≡ x))) → Dec ((s : SynonymEntry) × (Contains (r ∷ rs) s × (s.name ≡ x)))
    go (yes e) d = yes (r, (first r rs, e))
    go (no e) (yes h) = yes (h.0, (rest r rs h.0 h.1.0, h.1.1))
    go (no e) (no d) = no (λ h. ⊎_elim (λ s. e (subst (λ (t : SynonymEntry). t.name ≡ x) s h.1.1)) (λ o. d (h.0, (o, h.1.1))) (cases r rs h.0 h.1.0))

exports_type : (f : Interface) (x : List ℕ) → Dec (ExportsType f x)
exports_type f x = go (type_entry x f.types) (synonym_entry x f.synonyms)
  where
    go : Dec ((r : TypeEntry) × (Contains f.types r × (r.name ≡ x))) → Dec ((r : SynonymEntry) × (Contains f.synonyms r × (r.name ≡ x))) → Dec (ExportsType f x)
    go (yes h) d = yes (h.0.entity, a_type h.1.0 h.1.1 refl)
    go (no n) (yes h) = yes (h.0.entity, a_synonym h.1.0 h.1.1 refl)
    go (no n) (no d) = no (λ h. out h.0 h.1)
      where
        out : (e : Entity) → Exports f x e Types → ⊥
        out e (a_type {r} c s z) = n (r, (c, s))
        out e (a_synonym {r} c s z) = d (r, (c, s))

-- The names of a list after `hiding`

abbrev Hidden : List ImportItem → Identifier → Type 0
Hidden is n = Contains (map (λ (u : Mention). u.name) (all_hidden_mentions is)) n

split : (us vs : List Mention) → map (λ (u : Mention). u.name) (us ++ vs) ≡ map (λ (u : Mention). u.name) us ++ map (λ (u : Mention). u.name) vs
split us vs = map-append (λ (u : Mention). u.name) us vs

of_item : (n : Identifier) (is : List ImportItem) (j : ImportItem) → Contains is j → Contains (map (λ (u : Mention). u.name) (hidden_mentions j)) n → Hidden is n
of_item n [] j c h = absurd (none_in j c)
of_item n (i ∷ is) j c h = subst (λ l. Contains l n) (sym (split (hidden_mentions i) (all_hidden_mentions is))) (⊎_elim
    (λ s. left (map (λ (u : Mention). u.name) (hidden_mentions i)) (map (λ (u : Mention). u.name) (all_hidden_mentions is)) n (subst (λ k. Contains (map (λ (u : Mention). u.name) (hidden_mentions k)) n) s h))
    (λ o. right (map (λ (u : Mention). u.name) (hidden_mentions i)) (map (λ (u : Mention). u.name) (all_hidden_mentions is)) n (of_item n is j o h))
    (cases i is j c))

names_are : (ns : List Identifier) → map (λ (u : Mention). u.name) (mentions Constructor false ns) ≡ ns
names_are [] = refl
names_are (n ∷ ns) = ap (λ (l : List Identifier). n ∷ l) (names_are ns)

type_hidden : (n : Identifier) (s : SubItems) → Contains (map (λ (u : Mention). u.name) (hidden_mentions (item.Con n s))) n
type_hidden n subs.None = first n (n ∷ [])
type_hidden n subs.All = first n []
type_hidden n (subs.Some cs) = first n (map (λ (u : Mention). u.name) (mentions Constructor false cs))

constructor_hidden : (n k : Identifier) (cs : List Identifier) → Contains cs n → Contains (map (λ (u : Mention). u.name) (hidden_mentions (item.Con k (subs.Some cs)))) n
constructor_hidden n k cs c = rest k (map (λ (u : Mention). u.name) (mentions Constructor false cs)) n (subst (λ l. Contains l n) (sym (names_are cs)) c)

-- an import with a list is written
pub is_written : {m : Module} {i : Import} (is : List ImportItem) → Imports m i → i.list ≡ list.Only is → Contains m.header.imports i
is_written is (written c) l = c
is_written is (added h e) l = absurd (let z : list.Every ≡ list.Only is = sym (ap (λ (k : Import). k.list) e) ∙ l in cc)

module _ (m : Module) (fs : List Interface) (n : Identifier) where
  ambiguous_use : (es : List Export) → m.header.exports ≡ Some es → ExportFault m fs es Ambiguous n → IsUsedInHeader m fs n ambiguous
  ambiguous_use es e (exporting.ambiguous_value c h) = (Variable, uses.exported_variable (es, (e, c)) (several h))
  ambiguous_use es e (exporting.ambiguous_type c h) = (TypeConstructor, uses.exported_type (es, (e, c)) (several h))

  ambiguous_fault : {k : NameKind} → InHeader m fs n k false ambiguous → FaultAt m fs Exporting Ambiguous n
  ambiguous_fault (uses.exported_variable h (several a)) = (h.0, (h.1.0, exporting.ambiguous_value h.1.1 a))
  ambiguous_fault (uses.exported_type h (several a)) = (h.0, (h.1.0, exporting.ambiguous_type h.1.1 a))
  ambiguous_fault (uses.exported_constructor h c o) = elim o [ ]
  ambiguous_fault (uses.listed_variable c h o) = elim o [ ]
  ambiguous_fault (uses.listed_type c h o) = elim o [ ]
  ambiguous_fault (uses.listed_constructor c h d o) = elim o [ ]
  ambiguous_fault (uses.hidden_constructor c l h o) = elim o [ ]

  unbound_export : (es : List Export) → m.header.exports ≡ Some es → ExportFault m fs es Unbound n → IsUsedInHeader m fs n unbound
  unbound_export es e (exporting.unbound_value c h) = (Variable, uses.exported_variable (es, (e, c)) (no_entity h))
  unbound_export es e (exporting.unbound_type c h) = (TypeConstructor, uses.exported_type (es, (e, c)) (no_entity h))
  unbound_export es e (exporting.unbound_constructor {n = y} {t = t} c w k h) =
      (Constructor, uses.exported_constructor (es, (e, c)) k (no_constructor (λ s d v g. h d (subst (λ z. Rattle.hm_names.specs.Exports.HasConstructor m fs z n.text d) (w.alone s v.in_scope) g))))

  no_module : (es : List Export) → m.header.exports ≡ Some es → ExportFault m fs es NotImported n → IsUsedInHeader m fs n unbound
  no_module es e (exporting.not_imported c h) = (ModuleName, uses.no_prefix (es, (e, c)) h)

module _ (m : Module) (fs : List Interface) (one : (i : Import) → Contains m.header.imports i → IsOneNamed fs i.name.text) (n : Identifier) where
  -- two interfaces of an import are one
  same : {i : Import} {f g : Interface} → Contains m.header.imports i → Contains fs f → f.name ≡ i.name.text → Contains fs g → g.name ≡ i.name.text → g ≡ f
  same {i} {f} {g} c a b d e = (one i c).alone g d e ∙ sym ((one i c).alone f a b)

  import_use : ImportFault m fs NotExported n → IsUsedInHeader m fs n unbound
  import_use (importing.a_value (lists {i} {is} w c e l h) none) =
      let k = is_written is w l in
      (Variable, uses.listed_variable k (uses.listed l h) (uses.not_exported (λ g d there named has. none d (subst (λ f. Exports f n.text d Values) (same k c e there named) has))))
  import_use (importing.a_type (lists {i} {is} w c e l h) none) =
      let k = is_written is w l in
      (TypeConstructor, uses.listed_type k (uses.listed l h) (uses.not_exported (λ g d there named has. none d (subst (λ f. Exports f n.text d Types) (same k c e there named) has))))
  import_use (importing.a_constructor {n = t} (lists {i} {is} w c e l h) has o none) =
      let k = is_written is w l in
      (Constructor, uses.listed_constructor k (uses.listed l h) o (uses.not_exported (λ g d there named owns. none (belongs g t.text d (same k c e there named) owns))))
    where
      belongs : {f : Interface} (g : Interface) (x : List ℕ) (d : Entity) → g ≡ f → Owns g x n.text d → Belongs f x n.text
      belongs {f} g x d s o = subst (λ k. Belongs k x n.text) s (record {
        type = o.type;
        constructor = o.constructor;
        exports_type = o.exports_type;
        exports_constructor = o.exports_constructor;
        type_name = o.type_name;
        constructor_name = o.constructor_name;
        owner = o.owner;
      })

  unbound_use : IsUnboundFault m fs n → IsUsedInHeader m fs n unbound
  unbound_use (inl f) = unbound_export m fs n f.0 f.1.0 f.1.1
  unbound_use (inr (inl f)) = no_module m fs n f.0 f.1.0 f.1.1
  unbound_use (inr (inr f)) = import_use f

  -- And back

  export_fault : {k : Identifier} {cs : List Identifier} → ¬ (HasNoFault m fs n) → HasExport m (export.Con k (subs.Some cs)) → Contains cs n →
      ((t e : Entity) → Means m fs Types k t → ¬ (Rattle.hm_names.specs.Exports.HasConstructor m fs t n.text e)) → IsUnboundFault m fs n
  export_fault {k} {cs} q h c none = go (has_meaning m fs Types k)
    where
      go : IsUnbound m fs Types k ⊎ (IsAmbiguous m fs Types k ⊎ ((t : Entity) × Means m fs Types k t)) → IsUnboundFault m fs n
      go (inl u) = absurd (q (of_exported h c (λ e w. u e w.in_scope)))
      go (inr (inl a)) = absurd (q (of_exported h c (λ e w. a.1.1.2 (w.alone a.0 a.1.1.0 ∙ sym (w.alone a.1.0 a.1.1.1)))))
      go (inr (inr w)) = inl (h.0, (h.1.0, exporting.unbound_constructor h.1.1 w.1 c (λ e. none w.0 e w.1)))

  import_fault : ImportFault m fs NotExported n → IsUnboundFault m fs n
  import_fault f = inr (inr f)

  listing : {i : Import} {is : List ImportItem} {j : ImportItem} (c : Contains m.header.imports i) → i.list ≡ list.Only is → Contains is j → ListsItem m fs (one i c).interface j
  listing {i} c l h = lists (written c) (one i c).stands (one i c).named l h

  constructor_fault : {i : Import} {is : List ImportItem} {k : Identifier} {cs : List Identifier} → ¬ (HasNoFault m fs n) → Contains m.header.imports i → i.list ≡ list.Only is → Contains is (item.Con k (subs.Some cs)) → Contains cs n →
      ((f : Interface) (e : Entity) → Contains fs f → f.name ≡ i.name.text → ¬ (Owns f k.text n.text e)) → IsUnboundFault m fs n
  constructor_fault {i} {is} {k} {cs} q c l h d none = go (exports_type (one i c).interface k.text)
    where
      go : Dec (ExportsType (one i c).interface k.text) → IsUnboundFault m fs n
      go (no t) = absurd (q (of_listed c (uses.listed l h) d (uses.not_exported (λ g e there named has. t (e, subst (λ f. Exports f k.text e Types) ((one i c).alone g there named) has)))))
      go (yes t) = import_fault (importing.a_constructor (listing c l h) t.1 d (λ b. none (one i c).interface b.constructor.entity (one i c).stands (one i c).named (record {
        type = b.type;
        constructor = b.constructor;
        exports_type = b.exports_type;
        exports_constructor = b.exports_constructor;
        type_name = b.type_name;
        constructor_name = b.constructor_name;
        owner = b.owner;
        is = refl;
      })))

  unbound_fault : ¬ (HasNoFault m fs n) → {k : NameKind} → InHeader m fs n k false unbound → IsUnboundFault m fs n
  unbound_fault q (uses.exported_variable h (no_entity u)) = inl (h.0, (h.1.0, exporting.unbound_value h.1.1 u))
  unbound_fault q (uses.exported_type h (no_entity u)) = inl (h.0, (h.1.0, exporting.unbound_type h.1.1 u))
  unbound_fault q (uses.exported_constructor h c (no_constructor u)) = export_fault q h c u
  unbound_fault q (uses.no_prefix h u) = inr (inl (h.0, (h.1.0, exporting.not_imported h.1.1 u)))
  unbound_fault q (uses.listed_variable {i} c (uses.listed l h) (uses.not_exported u)) = import_fault (importing.a_value (listing c l h) (λ e. u (one i c).interface e (one i c).stands (one i c).named))
  unbound_fault q (uses.listed_variable c (uses.hidden {is} l h) o) = absurd (q (hidden c l (of_item n is (item.Var n) h (first n []))))
  unbound_fault q (uses.listed_type {i} c (uses.listed l h) (uses.not_exported u)) = import_fault (importing.a_type (listing c l h) (λ e. u (one i c).interface e (one i c).stands (one i c).named))
  unbound_fault q (uses.listed_type {s = s} c (uses.hidden {is} l h) o) = absurd (q (hidden c l (of_item n is (item.Con n s) h (type_hidden n s))))
  unbound_fault q (uses.listed_constructor c (uses.listed l h) d (uses.not_exported u)) = constructor_fault q c l h d u
  unbound_fault q (uses.listed_constructor {k = k} {cs = cs} c (uses.hidden {is} l h) d o) = absurd (q (hidden c l (of_item n is (item.Con k (subs.Some cs)) h (constructor_hidden n k cs d))))
  unbound_fault q (uses.hidden_constructor {is = is} c l h o) = absurd (q (hidden c l (of_item n is (item.Con n subs.None) h (type_hidden n subs.None))))

pub header_faults : HeaderFaults
header_faults m p fs e names n =
    let one = has_interface m p fs e names in
    record {
      ambiguous_one = (λ f. ambiguous_use m (p ∷ fs) n f.0 f.1.0 f.1.1, λ u. ambiguous_fault m (p ∷ fs) n u.1);
      of_unbound = unbound_use m (p ∷ fs) one n;
      unbound_one = λ q u. unbound_fault m (p ∷ fs) one n q u.1;
    }
