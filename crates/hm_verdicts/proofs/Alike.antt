-- Interfaces that are alike but for schemes of variables, and all that is said of scopes, which is the same under them.
use Rattle.std.proofs.Common.{◌≡◌, ℕ, List, [], ◌∷◌, ◌++◌, map, Option, None, Some, Contains, inl, inr, refl, sym, ap, ◌∙◌, subst}
use Rattle.hm_types.specs.declared.Entity.{Entity}
use Rattle.hm_types.specs.Interfaces.{Exports as Interface}
use Rattle.hm_typing.specs.Names.{IsOneOf}
use Rattle.hm_syntax.specs.declared.ast.Module.{Module}
use Rattle.hm_syntax.specs.declared.ast.Import.{Import}
use Rattle.hm_syntax.specs.declared.ast.Export.{Export}
use Rattle.hm_syntax.specs.declared.ast.ImportItem.{ImportItem}
use Rattle.hm_syntax.specs.Names.{Identifier}
use Rattle.hm_names.specs.declared.namespace.Namespace.{Namespace}
use Rattle.hm_names.specs.declared.namespace.Namespace.TheVariants.{Types, Constructors, Values}
use Rattle.hm_names.specs.declared.faults.Kind.{Kind}
use Rattle.hm_names.specs.Entities.{Exports, a_type, a_synonym, a_constructor, a_value, Belongs}
use Rattle.hm_names.specs.Scope.{Lists, Hides, Brings, InScope, IsUnbound, IsAmbiguous, Means}
use Rattle.hm_names.specs.Scope as scope
use Rattle.hm_names.specs.Described.{algebraic, imported_synonym, imported_types, imported_constructors, TypeDescription, type_meant, ConstructorDescription, constructor_meant}
use Rattle.hm_names.specs.Exports.{IsConstructorOf, HasConstructor, Gives, IsExported}
use Rattle.hm_names.specs.Exports as giving
use Rattle.hm_names.specs.Faults.Imports.{ListsItem, lists, ImportFault}
use Rattle.hm_names.specs.Faults.Imports as importing
use Rattle.hm_names.specs.Faults.Exports.{Clashes, ExportFault, IsAtMost, item_name, bare_at}
use Rattle.hm_names.specs.Faults.Exports as exporting
use Rattle.hm_names.specs.Faults.Names.{NameFault}
use Rattle.hm_names.specs.Faults.Names as naming
use Rattle.hm_names.specs.Faults.Arities.{ArityFault, RefersTo, refers, Reaches, directly, through, SynonymFault, recursive}
use Rattle.hm_names.specs.Faults.Arities as counting
use Rattle.hm_names.specs.Faults.Phases.{Phase, Importing, Declaring, Exporting, Naming, Counting, FaultAt, HasFault, IsWellFormed, AreFaults}
use Rattle.hm_names.specs.Walk.{Locals, Node}
use Rattle.hm_names.specs.Resolved.{Resolver, IsResolver}
use Rattle.hm_names.specs.declared.faults.Fault.{Fault}
use Rattle.hm_verdicts.specs.Skeletons.{skeleton, without_scheme}
use Rattle.hm_verdicts.proofs.Lists.{one_of_contained, contained, one_of_map, one_of_mapped}
use Rattle.hm_verdicts.proofs.Walking.{somewhere}

pub record AlikeInterface (f g : Interface) : Type 0 where
  pub name : g.name ≡ f.name
  pub exports : (x : List ℕ) (e : Entity) (s : Namespace) → Exports f x e s → Exports g x e s
  pub exports_back : (x : List ℕ) (e : Entity) (s : Namespace) → Exports g x e s → Exports f x e s
  pub belongs : (t c : List ℕ) → Belongs f t c → Belongs g t c
  pub belongs_back : (t c : List ℕ) → Belongs g t c → Belongs f t c

turned : (f g : Interface) → AlikeInterface f g → AlikeInterface g f
turned f g a = record { name = sym a.name; exports = a.exports_back; exports_back = a.exports; belongs = a.belongs_back; belongs_back = a.belongs }

pub record Alike (fs gs : List Interface) : Type 0 where
  pub there : (f : Interface) → Contains fs f → (g : Interface) × (Contains gs g × AlikeInterface f g)
  pub back : (g : Interface) → Contains gs g → (f : Interface) × (Contains fs f × AlikeInterface g f)
  pub types : imported_types fs ≡ imported_types gs
  pub constructors : imported_constructors fs ≡ imported_constructors gs

alike_turned : (fs gs : List Interface) → Alike fs gs → Alike gs fs
alike_turned fs gs a = record { there = a.back; back = a.there; types = sym a.types; constructors = sym a.constructors }

-- Interfaces with one skeleton are alike

same_exports : (f g : Interface) → skeleton f ≡ skeleton g → (x : List ℕ) (e : Entity) (s : Namespace) → Exports f x e s → Exports g x e s
same_exports f g h x e Types (a_type {r = r} c n d) = a_type {r = r} (subst (λ k. Contains k.types r) h c) n d
same_exports f g h x e Types (a_synonym {r = r} c n d) = a_synonym {r = r} (subst (λ k. Contains k.synonyms r) h c) n d
same_exports f g h x e Constructors (a_constructor {r = r} c n d) = a_constructor {r = r} (subst (λ k. Contains k.constructors r) h c) n d
same_exports f g h x e Values (a_value {r = r} c n d) =
    let o : IsOneOf (without_scheme r) (map without_scheme g.values) = subst (λ k. IsOneOf (without_scheme r) k.values) h (one_of_map without_scheme r f.values (one_of_contained f.values r c)) in
    let q = one_of_mapped without_scheme (without_scheme r) g.values o in
    a_value {r = q.0} (contained g.values q.0 q.1.0) (ap (λ v. v.name) (sym q.1.1) ∙ n) (ap (λ v. v.entity) (sym q.1.1) ∙ d)

same_belongs : (f g : Interface) → skeleton f ≡ skeleton g → (t c : List ℕ) → Belongs f t c → Belongs g t c
same_belongs f g h t c b = record {
  type = b.type;
  constructor = b.constructor;
  exports_type = subst (λ k. Contains k.types b.type) h b.exports_type;
  exports_constructor = subst (λ k. Contains k.constructors b.constructor) h b.exports_constructor;
  type_name = b.type_name;
  constructor_name = b.constructor_name;
  owner = b.owner;
}

alike_interface : (f g : Interface) → skeleton f ≡ skeleton g → AlikeInterface f g
alike_interface f g h = record {
  name = ap (λ k. k.name) (sym h);
  exports = same_exports f g h;
  exports_back = same_exports g f (sym h);
  belongs = same_belongs f g h;
  belongs_back = same_belongs g f (sym h);
}

skeleton_types : (fs : List Interface) → imported_types fs ≡ imported_types (map skeleton fs)
skeleton_types [] = refl
skeleton_types (f ∷ fs) = ap (λ r. map (λ t. record { entity = t.entity; meaning = algebraic t.arity }) f.types ++ (map (λ t. record { entity = t.entity; meaning = imported_synonym t.synonym }) f.synonyms ++ r)) (skeleton_types fs)

skeleton_constructors : (fs : List Interface) → imported_constructors fs ≡ imported_constructors (map skeleton fs)
skeleton_constructors [] = refl
skeleton_constructors (f ∷ fs) = ap (λ r. map (λ t. record { entity = t.entity; owner = t.owner; arguments = t.arguments }) f.constructors ++ r) (skeleton_constructors fs)

has_alike : (fs gs : List Interface) → map skeleton fs ≡ map skeleton gs → (f : Interface) → Contains fs f → (g : Interface) × (Contains gs g × AlikeInterface f g)
has_alike fs gs h f c =
    let q = one_of_mapped skeleton (skeleton f) gs (subst (λ ks. IsOneOf (skeleton f) ks) h (one_of_map skeleton f fs (one_of_contained fs f c))) in
    (q.0, (contained gs q.0 q.1.0, alike_interface f q.0 q.1.1))

pub alike : (fs gs : List Interface) → map skeleton fs ≡ map skeleton gs → Alike fs gs
alike fs gs h = record {
  there = has_alike fs gs h;
  back = has_alike gs fs (sym h);
  types = skeleton_types fs ∙ (ap imported_types h ∙ sym (skeleton_types gs));
  constructors = skeleton_constructors fs ∙ (ap imported_constructors h ∙ sym (skeleton_constructors gs));
}

-- Import lists

moved_lists : (f g : Interface) → AlikeInterface f g → (x : List ℕ) (j : ImportItem) (s : Namespace) → Lists f x j s → Lists g x j s
moved_lists f g a x j s (scope.a_value e) = scope.a_value e
moved_lists f g a x j s (scope.a_type e) = scope.a_type e
moved_lists f g a x j s (scope.each_constructor {n = n} b) = scope.each_constructor (a.belongs n.text x b)
moved_lists f g a x j s (scope.a_constructor {n = n} c e b) = scope.a_constructor c e (a.belongs n.text x b)

moved_hides : (f g : Interface) → AlikeInterface f g → (x : List ℕ) (j : ImportItem) (s : Namespace) → Hides f x j s → Hides g x j s
moved_hides f g a x j s (scope.listed h) = scope.listed (moved_lists f g a x j s h)
moved_hides f g a x j s (scope.alone e) = scope.alone e

moved_brings : (f g : Interface) → AlikeInterface f g → (i : Import) (s : Namespace) (x : List ℕ) (e : Entity) → Brings f i s x e → Brings g i s x e
moved_brings f g a i s x e (scope.every h b) = scope.every h (a.exports x e s b)
moved_brings f g a i s x e (scope.only {j = j} h c l b) = scope.only h c (moved_lists f g a x j s l) (a.exports x e s b)
moved_brings f g a i s x e (scope.hiding h n b) = scope.hiding h (λ j c k. n j c (moved_hides g f (turned f g a) x j s k)) (a.exports x e s b)

-- Scopes

module _ (m : Module) where
  pub moved_in_scope : (fs gs : List Interface) → Alike fs gs → (s : Namespace) (q : Option (List ℕ)) (x : List ℕ) (e : Entity) → InScope m fs s q x e → InScope m gs s q x e
  moved_in_scope fs gs a s q x e (scope.declared d h k) = scope.declared d h k
  moved_in_scope fs gs a s q x e (scope.imported {i = i} {f = f} h c n b k) =
      let g = a.there f c in
      scope.imported {f = g.0} h g.1.0 (g.1.1.name ∙ n) (moved_brings f g.0 g.1.1 i s x e b) k

  moved_unbound : (fs gs : List Interface) → Alike fs gs → (s : Namespace) (n : Identifier) → IsUnbound m fs s n → IsUnbound m gs s n
  moved_unbound fs gs a s n u e h = u e (moved_in_scope gs fs (alike_turned fs gs a) s n.qualifier n.text e h)

  moved_ambiguous : (fs gs : List Interface) → Alike fs gs → (s : Namespace) (n : Identifier) → IsAmbiguous m fs s n → IsAmbiguous m gs s n
  moved_ambiguous fs gs a s n u = (u.0, (u.1.0, (moved_in_scope fs gs a s n.qualifier n.text u.0 u.1.1.0, moved_in_scope fs gs a s n.qualifier n.text u.1.0 u.1.1.1, u.1.1.2)))

  pub moved_means : (fs gs : List Interface) → Alike fs gs → (s : Namespace) (n : Identifier) (e : Entity) → Means m fs s n e → Means m gs s n e
  moved_means fs gs a s n e h = record {
    in_scope = moved_in_scope fs gs a s n.qualifier n.text e h.in_scope;
    alone = λ d k. h.alone d (moved_in_scope gs fs (alike_turned fs gs a) s n.qualifier n.text d k);
  }

  pub moved_type_meant : (fs gs : List Interface) → Alike fs gs → (e : Entity) → type_meant m.header.name.text m.decls fs e ≡ type_meant m.header.name.text m.decls gs e
  moved_type_meant fs gs a e = ap (λ r. Rattle.hm_names.specs.Described.first_of (λ d. d.entity) e (Rattle.hm_names.specs.Described.declared_types m.header.name.text m.decls ++ r)) a.types

  pub moved_constructor_meant : (fs gs : List Interface) → Alike fs gs → (e : Entity) → constructor_meant m.header.name.text m.decls fs e ≡ constructor_meant m.header.name.text m.decls gs e
  moved_constructor_meant fs gs a e = ap (λ r. Rattle.hm_names.specs.Described.first_of (λ d. d.entity) e (Rattle.hm_names.specs.Described.declared_constructors m.header.name.text m.decls ++ r)) a.constructors

  moved_has_constructor : (fs gs : List Interface) → Alike fs gs → (t : Entity) (c : List ℕ) (k : Entity) → HasConstructor m fs t c k → HasConstructor m gs t c k
  moved_has_constructor fs gs a t c k h = ((h.0.0, (sym (moved_constructor_meant fs gs a k) ∙ h.0.1.0, h.0.1.1)), (h.1.0, moved_in_scope fs gs a Constructors h.1.0 c k h.1.1))

  -- Exports

  moved_gives : (fs gs : List Interface) → Alike fs gs → (x : List ℕ) (e : Entity) (i : Export) (s : Namespace) → Gives m fs x e i s → Gives m gs x e i s
  moved_gives fs gs a x e i s (giving.a_value {n = n} h k) = giving.a_value (moved_means fs gs a Values n e h) k
  moved_gives fs gs a x e i s (giving.a_type {n = n} h k) = giving.a_type (moved_means fs gs a Types n e h) k
  moved_gives fs gs a x e i s (giving.each_constructor {n = n} {t = t} h k) = giving.each_constructor (moved_means fs gs a Types n t h) (moved_has_constructor fs gs a t x e k)
  moved_gives fs gs a x e i s (giving.a_constructor {n = n} {t = t} h c d k) = giving.a_constructor (moved_means fs gs a Types n t h) c d (moved_has_constructor fs gs a t x e k)
  moved_gives fs gs a x e i s (giving.whole {n = n} h k l) = giving.whole h (moved_in_scope fs gs a s None x e k) (moved_in_scope fs gs a s (Some n.text) x e l)

  pub moved_exported : (fs gs : List Interface) → Alike fs gs → (s : Namespace) (x : List ℕ) (e : Entity) → IsExported m fs s x e → IsExported m gs s x e
  moved_exported fs gs a s x e (giving.all h d k) = giving.all h d k
  moved_exported fs gs a s x e (giving.listed {i = i} h c g) = giving.listed h c (moved_gives fs gs a x e i s g)

  -- Faults

  moved_lists_item : (fs gs : List Interface) → Alike fs gs → (f : Interface) (j : ImportItem) → ListsItem m fs f j → (g : Interface) × (AlikeInterface f g × ListsItem m gs g j)
  moved_lists_item fs gs a f j (lists h c n l k) = let g = a.there f c in (g.0, (g.1.1, lists h g.1.0 (g.1.1.name ∙ n) l k))

  moved_import_fault : (fs gs : List Interface) → Alike fs gs → (k : Kind) (n : Identifier) → ImportFault m fs k n → ImportFault m gs k n
  moved_import_fault fs gs a k n (importing.a_value {f = f} {n = x} l u) = let g = moved_lists_item fs gs a f _ l in importing.a_value g.1.1 (λ e h. u e (g.1.0.exports_back x.text e Values h))
  moved_import_fault fs gs a k n (importing.a_type {f = f} {n = x} l u) = let g = moved_lists_item fs gs a f _ l in importing.a_type g.1.1 (λ e h. u e (g.1.0.exports_back x.text e Types h))
  moved_import_fault fs gs a k n (importing.a_constructor {f = f} {n = x} {c = c} {e = e} l h o u) =
      let g = moved_lists_item fs gs a f _ l in importing.a_constructor g.1.1 (g.1.0.exports x.text e Types h) o (λ b. u (g.1.0.belongs_back x.text c.text b))

  moved_clashes : (fs gs : List Interface) → Alike fs gs → (before : List Export) (i : Export) (x : List ℕ) → Clashes m fs before i x → Clashes m gs before i x
  moved_clashes fs gs a before i x c = record {
    space = c.space;
    one = c.one;
    given = moved_gives fs gs a x c.one i c.space c.given;
    item = c.item;
    stands = c.stands;
    other = c.other;
    given_too = moved_gives fs gs a x c.other c.item c.space c.given_too;
    differ = c.differ;
  }

  moved_export_fault : (fs gs : List Interface) → Alike fs gs → (es : List Export) (k : Kind) (n : Identifier) → ExportFault m fs es k n → ExportFault m gs es k n
  moved_export_fault fs gs a es k n (exporting.unbound_value {n = x} c u) = exporting.unbound_value c (moved_unbound fs gs a Values x u)
  moved_export_fault fs gs a es k n (exporting.unbound_type {n = x} c u) = exporting.unbound_type c (moved_unbound fs gs a Types x u)
  moved_export_fault fs gs a es k n (exporting.ambiguous_value {n = x} c u) = exporting.ambiguous_value c (moved_ambiguous fs gs a Values x u)
  moved_export_fault fs gs a es k n (exporting.ambiguous_type {n = x} c u) = exporting.ambiguous_type c (moved_ambiguous fs gs a Types x u)
  moved_export_fault fs gs a es k n (exporting.unbound_constructor {n = x} {c = c} {t = t} o h d u) =
      exporting.unbound_constructor o (moved_means fs gs a Types x t h) d (λ e b. u e (moved_has_constructor gs fs (alike_turned fs gs a) t c.text e b))
  moved_export_fault fs gs a es k n (exporting.clash before after {i = i} {x = x} h c least) =
      exporting.clash before after h (moved_clashes fs gs a before i x c) (λ y d. least y (moved_clashes gs fs (alike_turned fs gs a) before i y d))
  moved_export_fault fs gs a es k n (exporting.not_imported c u) = exporting.not_imported c u

  moved_name_fault : (fs gs : List Interface) → Alike fs gs → (k : Kind) (n : Identifier) (xs : Locals) (t : Node) → NameFault m fs xs t k n → NameFault m gs xs t k n
  moved_name_fault fs gs a k n xs t (naming.unbound {s = s} {n = x} u h) = naming.unbound u (moved_unbound fs gs a s x h)
  moved_name_fault fs gs a k n xs t (naming.ambiguous {s = s} {n = x} u h) = naming.ambiguous u (moved_ambiguous fs gs a s x h)
  moved_name_fault fs gs a k n xs t (naming.no_parameter c u) = naming.no_parameter c u
  moved_name_fault fs gs a k n xs t (naming.non_linear r) = naming.non_linear r

  moved_arity_fault : (fs gs : List Interface) → Alike fs gs → (k : Kind) (n : Identifier) (xs : Locals) (t : Node) → ArityFault m fs t k n → ArityFault m gs t k n
  moved_arity_fault fs gs a k n xs t (counting.a_type {n = x} {e = e} h d u) = counting.a_type (moved_means fs gs a Types x e h) (sym (moved_type_meant fs gs a e) ∙ d) u
  moved_arity_fault fs gs a k n xs t (counting.a_pattern {n = x} {e = e} s h d u) = counting.a_pattern s (moved_means fs gs a Constructors x e h) (sym (moved_constructor_meant fs gs a e) ∙ d) u
  moved_arity_fault fs gs a k n xs t (counting.a_special s u) = counting.a_special s u
  moved_arity_fault fs gs a k n xs t (counting.another_length c) = counting.another_length c

  moved_refers : (fs gs : List Interface) → Alike fs gs → (x y : List ℕ) → RefersTo m fs x y → RefersTo m gs x y
  moved_refers fs gs a x y (refers {k = k} c h d e) = refers c h d (moved_means fs gs a Types k _ e)

  moved_reaches : (fs gs : List Interface) → Alike fs gs → {x y : List ℕ} → Reaches m fs x y → Reaches m gs x y
  moved_reaches fs gs a (directly {x = x} {y = y} r) = directly (moved_refers fs gs a x y r)
  moved_reaches fs gs a (through {x = x} {y = y} r h) = through (moved_refers fs gs a x y r) (moved_reaches fs gs a h)

  moved_synonym_fault : (fs gs : List Interface) → Alike fs gs → (k : Kind) (n : Identifier) → SynonymFault m fs k n → SynonymFault m gs k n
  moved_synonym_fault fs gs a k n (recursive c r) = recursive c (moved_reaches fs gs a r)

  moved_fault_at : (fs gs : List Interface) → Alike fs gs → (p : Phase) (k : Kind) (n : Identifier) → FaultAt m fs p k n → FaultAt m gs p k n
  moved_fault_at fs gs a Importing k n h = moved_import_fault fs gs a k n h
  moved_fault_at fs gs a Declaring k n h = h
  moved_fault_at fs gs a Exporting k n h = (h.0, (h.1.0, moved_export_fault fs gs a h.0 k n h.1.1))
  moved_fault_at fs gs a Naming k n h = somewhere (λ xs t. NameFault m fs xs t k n) (λ xs t. NameFault m gs xs t k n) (moved_name_fault fs gs a k n) m h
  moved_fault_at fs gs a Counting k n (inl h) = inl (somewhere (λ xs t. ArityFault m fs t k n) (λ xs t. ArityFault m gs t k n) (moved_arity_fault fs gs a k n) m h)
  moved_fault_at fs gs a Counting k n (inr h) = inr (moved_synonym_fault fs gs a k n h)

  moved_has_fault : (fs gs : List Interface) → Alike fs gs → (p : Phase) (f : Fault) → HasFault m fs p f → HasFault m gs p f
  moved_has_fault fs gs a p f h = record { kind = h.kind; name = h.name; stands = moved_fault_at fs gs a p h.kind h.name h.stands; is = h.is }

  pub moved_well_formed : (fs gs : List Interface) → Alike fs gs → IsWellFormed m fs → IsWellFormed m gs
  moved_well_formed fs gs a w p f h = w p f (moved_has_fault gs fs (alike_turned fs gs a) p f h)

  pub moved_faults : (fs gs : List Interface) → Alike fs gs → (found : List Fault) → AreFaults m fs found → AreFaults m gs found
  moved_faults fs gs a found h = record {
    phase = h.phase;
    some = h.some;
    exact = λ f. (λ c. moved_has_fault fs gs a h.phase f ((h.exact f).0 c), λ k. (h.exact f).1 (moved_has_fault gs fs (alike_turned fs gs a) h.phase f k));
    first = λ p l f k. h.first p l f (moved_has_fault gs fs (alike_turned fs gs a) p f k);
    ordered = h.ordered;
  }

  pub moved_resolver : (fs gs : List Interface) → Alike fs gs → (r : Resolver) → IsResolver m fs r → IsResolver m gs r
  moved_resolver fs gs a r h =
      let b = alike_turned fs gs a in
      record {
        local = h.local;
        value = λ xs n e l k. h.value xs n e l (moved_means gs fs b Values n e k);
        special = h.special;
        constructor = λ xs n e s k. h.constructor xs n e s (moved_means gs fs b Constructors n e k);
        type = λ xs n e k. h.type xs n e (moved_means gs fs b Types n e k);
        synonym = λ e d k. h.synonym e d (moved_type_meant fs gs a e ∙ k);
      }
