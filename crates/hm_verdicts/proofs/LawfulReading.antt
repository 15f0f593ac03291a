-- A reading of a lawful set is lawful as the typing has it: an import order, known scopes, and names of modules that are apart.
use Rattle.std.proofs.Common.{◌≡◌, ℕ, zero, suc, ◌<◌, Bool, true, false, List, [], ◌∷◌, length, slice_index_or, Option, None, inl, inr, ◌⊎◌, ⊎_elim, refl, sym, ap, ◌∙◌, subst, arith, true≢false}
use Rattle.std.proofs.lemmas.Bool.{cases_order}
use Rattle.hm_types.specs.declared.Entity.{Entity}
use Rattle.hm_types.specs.declared.entries.ValueEntry.{ValueEntry}
use Rattle.hm_types.specs.Interfaces.{Exports as Interface}
use Rattle.hm_types.specs.StandardPrelude.{prelude_interface}
use Rattle.hm_typing.specs.Names.{Identifier, local, global, binding, IsOneOf, IsDistinct}
use Rattle.hm_typing.specs.Syntax.{names}
use Rattle.hm_typing.specs.Verdicts.{InClosure, itself, imported, IsImportedBy, IsLawful}
use Rattle.hm_syntax.specs.declared.ast.Export.{Export}
use Rattle.hm_syntax.specs.declared.ast.Module.{Module}
use Rattle.hm_graph.specs.Imports.{name_at}
use Rattle.hm_names.specs.ModuleCores.{ModuleCore}
use Rattle.hm_names.specs.Cores.{IsCore, imported_values, syntax_of}
use Rattle.hm_names.specs.declared.namespace.Namespace.TheVariants.{Values}
use Rattle.hm_names.specs.Entities.{Exports, a_value, Declares, own}
use Rattle.hm_names.specs.Exports.{IsExported, Gives}
use Rattle.hm_names.specs.Exports as giving
use Rattle.hm_names.specs.Scope.{InScope, Brings}
use Rattle.hm_names.specs.Scope as scope
use Rattle.hm_verdicts.proofs.Homes.{IsOf, home}
use Rattle.hm_names.proofs.TopVariables.{distinct_names_of_core, declared_names_of_core}
use Rattle.hm_verdicts.specs.Readings.{Reading, IsModuleIn, typing_module, prelude_variables}
use Rattle.hm_verdicts.specs.Sets.{ModuleSet, module_at, imports_of, outlines_of, no_module, IsLawfulSet}
use Rattle.hm_verdicts.specs.Skeletons.{skeleton, without_scheme, with_prelude, IsSkeletonOf, HasSkeleton, of_module, HaveSkeletons, none, one_more}
use Rattle.hm_verdicts.proofs.Lists.{one_of_contained, contained, one_of_either, one_of_map, one_of_mapped}
use Rattle.hm_names.proofs.OneCore.{one_core}
use Rattle.hm_verdicts.proofs.OneSkeleton.{one_skeletons, height, heights, one_heights, skeleton_at}
use Rattle.hm_verdicts.proofs.PreludeFacts.{prelude_home}
use Rattle.std.proofs.lemmas.List.{length-map}

pub bool_cases : (b : Bool) → (b ≡ true) ⊎ (b ≡ false)
bool_cases true = inl refl
bool_cases false = inr refl

-- Where an exported value comes from

-- the module declares it, or an interface has it
abbrev pub ComesFrom : Module → List Interface → Entity → Type 0
ComesFrom m fs e = ((y : List ℕ) × (Declares m y Values × (e ≡ own m y))) ⊎ ((f : Interface) × (IsOneOf f fs × ((v : ValueEntry) × (IsOneOf v f.values × (v.entity ≡ e)))))

exports_value : (f : Interface) (x : List ℕ) (e : Entity) → Exports f x e Values → (v : ValueEntry) × (IsOneOf v f.values × (v.entity ≡ e))
exports_value f x e (a_value {r = r} c n d) = (r, (one_of_contained f.values r c, d))

module _ (m : Module) (fs : List Interface) where
  brings_value : (f : Interface) (i : _) (x : List ℕ) (e : Entity) → Brings f i Values x e → Exports f x e Values
  brings_value f i x e (scope.every h b) = b
  brings_value f i x e (scope.only h c l b) = b
  brings_value f i x e (scope.hiding h n b) = b

  in_scope_value : (q : Option (List ℕ)) (x : List ℕ) (e : Entity) → InScope m fs Values q x e → ComesFrom m fs e
  in_scope_value q x e (scope.declared d h k) = inl (x, (d, k))
  in_scope_value q x e (scope.imported {i = i} {f = f} h c n b k) = inr (f, (one_of_contained fs f c, exports_value f x e (brings_value f i x e b)))

  gives_value : (x : List ℕ) (e : Entity) (i : Export) → Gives m fs x e i Values → ComesFrom m fs e
  gives_value x e i (giving.a_value {n = n} h k) = in_scope_value n.qualifier n.text e h.in_scope
  gives_value x e i (giving.whole h k l) = in_scope_value None x e k

  pub exported_value : (x : List ℕ) (e : Entity) → IsExported m fs Values x e → ComesFrom m fs e
  exported_value x e (giving.all h d k) = inl (x, (d, k))
  exported_value x e (giving.listed {i = i} h c g) = gives_value x e i g

-- Values of lists of interfaces

pub value_among : (v : ValueEntry) (fs : List Interface) → IsOneOf v (imported_values fs) → (f : Interface) × (IsOneOf f fs × IsOneOf v f.values)
value_among v [] o = absurd o
value_among v (f ∷ fs) o = ⊎_elim (λ p. (f, (inl refl, p))) (λ q. let r = value_among v fs q in (r.0, (inr r.1.0, r.1.1))) (one_of_either v f.values (imported_values fs) o)

prelude_variable : (v : ValueEntry) → IsOneOf v (skeleton prelude_interface).values → IsOneOf (global v.entity) prelude_variables
prelude_variable v o =
    let w = one_of_mapped without_scheme v prelude_interface.values o in
    subst (λ z. IsOneOf (global z) prelude_variables) (ap (λ z. z.entity) (sym w.1.1)) (one_of_map (λ z. global z.entity) w.0 prelude_interface.values w.1.0)

-- Names of modules

pub outline_at : (ms : List Module) (i : ℕ) → name_at (outlines_of ms) i ≡ (slice_index_or ms i no_module).header.name.text
outline_at [] i = refl
outline_at (m ∷ ms) zero = refl
outline_at (m ∷ ms) (suc i) = outline_at ms i

same_home : (m n : List ℕ) (x : Identifier) → IsOf m x → IsOf n x → m ≡ n
same_home m n (local x) h k = absurd h
same_home m n (global e) h k = sym h ∙ k
same_home m n (binding a b) h k = sym h ∙ k

module _ (p : ModuleSet) (law : IsLawfulSet p) where
  module _ (r : Reading p) where
    pub imports_read : (i : ℕ) → r.read i ≡ true → (r.set i).imports ≡ imports_of p i
    imports_read i e = ap (λ t. t.imports) (r.each i e).is

    pub read_import : (i j : ℕ) → IsOneOf j (r.set i).imports → (r.read i ≡ true) × IsOneOf j (imports_of p i)
    read_import i j o = ⊎_elim (λ e. (e, subst (λ js. IsOneOf j js) (imports_read i e) o)) (λ n. absurd (subst (λ t. IsOneOf j t.imports) (r.others i n) o)) (bool_cases (r.read i))

    pub read_below : {i j : ℕ} → InClosure r.set i j → r.read i ≡ true → r.read j ≡ true
    read_below itself e = e
    read_below (imported {i = i} {j = j} o c) e = read_below c (r.whole i j e (read_import i j o).1)

    -- The import order

    rank_of : (i : ℕ) → (r.read i ≡ true) ⊎ (r.read i ≡ false) → ℕ
    rank_of i (inl e) = heights p (r.each i e).have_skeletons
    rank_of i (inr n) = zero

    height_below : {i : ℕ} {k : Interface} (d : HasSkeleton p i k) {ks : List Interface} (h : HaveSkeletons p (imports_of p i) ks) → height p d ≡ suc (heights p h)
    height_below (of_module a s) h = ap suc (one_heights p a h)

    lower : (i j : ℕ) (a : (r.read i ≡ true) ⊎ (r.read i ≡ false)) (b : (r.read j ≡ true) ⊎ (r.read j ≡ false)) → r.read i ≡ true → IsOneOf j (imports_of p i) → rank_of j b < rank_of i a
    unfolding rank_of
    lower i j (inr n) b e o = absurd (true≢false (sym e ∙ n))
    lower i j (inl e) (inr n) e' o = absurd (true≢false (sym (r.whole i j e o) ∙ n))
    lower i j (inl e) (inl f) e' o =
        let d = skeleton_at p (r.each i e).have_skeletons j o in
        let h : height p d.derivation ≡ suc (heights p (r.each j f).have_skeletons) = height_below d.derivation (r.each j f).have_skeletons in
        let l = d.low in
        omega (arith, h, l)

    -- What is known of scopes

    -- a variable of Prelude, or one that is bound in the closure of module j
    abbrev pub KnownBelow : ℕ → Identifier → Type 0
    KnownBelow j x = IsOneOf x prelude_variables ⊎ ((h : ℕ) × (InClosure r.set j h × IsOneOf x (names (r.set h).bindings)))

    -- the same, for one of some modules
    abbrev pub KnownAmong : List ℕ → Identifier → Type 0
    KnownAmong js x = IsOneOf x prelude_variables ⊎ ((j : ℕ) × (IsOneOf j js × ((h : ℕ) × (InClosure r.set j h × IsOneOf x (names (r.set h).bindings)))))

    pub same_core : (i : ℕ) (e : r.read i ≡ true) (ks : List Interface) (c : ModuleCore) → HaveSkeletons p (imports_of p i) ks → IsCore (module_at p i) (with_prelude ks) c → r.set i ≡ typing_module (imports_of p i) c
    same_core i e ks c h is =
        let t = r.each i e in
        let k : t.skeletons ≡ ks = one_skeletons p t.have_skeletons h in
        let d : IsCore (module_at p i) (with_prelude ks) t.core = subst (λ z. IsCore (module_at p i) (with_prelude z) t.core) k t.is_core in
        t.is ∙ ap (λ z. typing_module (imports_of p i) z) (one_core (module_at p i) (with_prelude ks) t.core c d is)

    above : (i : ℕ) (x : Identifier) → r.read i ≡ true → KnownAmong (imports_of p i) x → KnownBelow i x
    above i x e (inl o) = inl o
    above i x e (inr q) = inr (q.1.1.0, (imported (subst (λ js. IsOneOf q.0 js) (sym (imports_read i e)) q.1.0) q.1.1.1.0, q.1.1.1.1))

    from : (i : ℕ) (ks : List Interface) {k : Interface} → r.read i ≡ true → HaveSkeletons p (imports_of p i) ks → (s : IsSkeletonOf (module_at p i) ks k) (v : ValueEntry) →
        ((f : Interface) → IsOneOf f ks → (w : ValueEntry) → IsOneOf w f.values → KnownAmong (imports_of p i) (global w.entity)) → ComesFrom (module_at p i) (with_prelude ks) v.entity → KnownBelow i (global v.entity)
    from i ks e a s v below (inl d) =
        inr (
          i,
          (
            itself,
            subst (λ t. IsOneOf (global v.entity) (names t.bindings)) (sym (same_core i e ks s.core a s.is_core))
                (subst (λ z. IsOneOf (global z) (names (syntax_of s.core))) (sym d.1.1) (declared_names_of_core (module_at p i) (with_prelude ks) s.core s.is_core d.0 d.1.0)),
          ),
        )
    from i ks e a s v below (inr (f, (inl h, (w, (q, same))))) = inl (subst (λ z. IsOneOf (global z) prelude_variables) same (prelude_variable w (subst (λ z. IsOneOf w z.values) h q)))
    from i ks e a s v below (inr (f, (inr o, (w, (q, same))))) = above i (global v.entity) e (subst (λ z. KnownAmong (imports_of p i) (global z)) same (below f o w q))

    mutual
      pub value_known : {j : ℕ} {k : Interface} → HasSkeleton p j k → r.read j ≡ true → (v : ValueEntry) → IsOneOf v k.values → KnownBelow j (global v.entity)
      value_known (of_module {i = i} {ks = ks} {k = k} a s) e v o =
          from i ks e a s v (λ f q w u. values_known a (λ j t. r.whole i j e t) f q w u)
          (exported_value (module_at p i) (with_prelude ks) v.name v.entity ((s.is_core.exports Values v.name v.entity).0 ((s.interface.values v).0 (contained k.values v o)).0))

      pub values_known : {js : List ℕ} {ks : List Interface} → HaveSkeletons p js ks → ((j : ℕ) → IsOneOf j js → r.read j ≡ true) → (f : Interface) → IsOneOf f ks → (v : ValueEntry) → IsOneOf v f.values → KnownAmong js (global v.entity)
      values_known none all f o v q = absurd o
      values_known (one_more {j = j} {k = k} a rest) all f (inl e) v q = ⊎_elim (λ g. inl g) (λ g. inr (j, (inl refl, g))) (value_known a (all j (inl refl)) v (subst (λ z. IsOneOf v z.values) e q))
      values_known (one_more {j = j} {k = k} a rest) all f (inr o) v q = ⊎_elim (λ g. inl g) (λ g. inr (g.0, (inr g.1.0, g.1.1))) (values_known rest (λ h t. all h (inr t)) f o v q)

    known_scope : (i : ℕ) (x : Identifier) → r.read i ≡ true → IsOneOf x (r.set i).scope → IsOneOf x prelude_variables ⊎ ((j : ℕ) × IsImportedBy r.set i j × IsOneOf x (names (r.set j).bindings))
    known_scope i x e o =
        let t = r.each i e in
        let q = one_of_mapped (λ v. global v.entity) x (imported_values t.core.interfaces) (subst (λ z. IsOneOf x z.scope) t.is o) in
        let f = value_among q.0 t.core.interfaces q.1.0 in
        at t q.0 q.1.1 f.0 (subst (λ fs. IsOneOf f.0 fs) t.is_core.interfaces f.1.0) f.1.1
      where
        at : (t : IsModuleIn p i (r.set i)) (v : ValueEntry) → x ≡ global v.entity → (f : Interface) → IsOneOf f (with_prelude t.skeletons) → IsOneOf v f.values →
            IsOneOf x prelude_variables ⊎ ((j : ℕ) × IsImportedBy r.set i j × IsOneOf x (names (r.set j).bindings))
        at t v same f (inl h) u = inl (subst (λ z. IsOneOf z prelude_variables) (sym same) (prelude_variable v (subst (λ z. IsOneOf v z.values) h u)))
        at t v same f (inr h) u = ⊎_elim
            (λ g. inl (subst (λ z. IsOneOf z prelude_variables) (sym same) g))
            (λ g. inr (g.1.1.0, (g.0, subst (λ js. IsOneOf g.0 js) (sym (imports_read i e)) g.1.0, g.1.1.1.0), subst (λ z. IsOneOf z (names (r.set g.1.1.0).bindings)) (sym same) g.1.1.1.1))
            (values_known t.have_skeletons (λ j k. r.whole i j e k) f h v u)

    -- Names of modules are apart

    pub names_home : (i : ℕ) (x : Identifier) (e : r.read i ≡ true) → IsOneOf x (names (r.set i).bindings) → IsOf (module_at p i).header.name.text x
    names_home i x e o =
        let t = r.each i e in
        home (module_at p i) (with_prelude t.skeletons) t.core t.is_core x (subst (λ z. IsOneOf x (names z.bindings)) t.is o)

    pub read_names : (i : ℕ) (x : Identifier) → IsOneOf x (names (r.set i).bindings) → r.read i ≡ true
    read_names i x o = ⊎_elim (λ e. e) (λ n. absurd (subst (λ t. IsOneOf x (names t.bindings)) (r.others i n) o)) (bool_cases (r.read i))

    read_scope : (i : ℕ) (x : Identifier) → IsOneOf x (r.set i).scope → r.read i ≡ true
    read_scope i x o = ⊎_elim (λ e. e) (λ n. absurd (subst (λ t. IsOneOf x t.scope) (r.others i n) o)) (bool_cases (r.read i))

    one_number : (i j : ℕ) → i < length p.modules → j < length p.modules → (module_at p i).header.name.text ≡ (module_at p j).header.name.text → i ≡ j
    one_number i j a b e = elim (cases_order i j) [
      | inl h ↦ h
      | inr (inl l) ↦ absurd (law.lawful.distinct j (subst (λ n. j < n) (sym (length-map p.modules _)) b) (inr (i, l, outline_at p.modules i ∙ (e ∙ sym (outline_at p.modules j)))))
      | inr (inr l) ↦ absurd (law.lawful.distinct i (subst (λ n. i < n) (sym (length-map p.modules _)) a) (inr (j, l, outline_at p.modules j ∙ (sym e ∙ sym (outline_at p.modules i)))))
    ]

    apart_names : (i j : ℕ) (x : Identifier) → IsOneOf x (names (r.set i).bindings) → IsOneOf x (names (r.set j).bindings) → i ≡ j
    apart_names i j x o q =
        let e = read_names i x o in
        let f = read_names j x q in
        one_number i j (r.each i e).inside (r.each j f).inside (same_home _ _ x (names_home i x e o) (names_home j x f q))

    pub not_prelude_name : (i : ℕ) (x : Identifier) → IsOneOf x (names (r.set i).bindings) → ¬ (IsOneOf x prelude_variables)
    not_prelude_name i x o q =
        let e = read_names i x o in
        let v = one_of_mapped (λ z. global z.entity) x prelude_interface.values q in
        let h : IsOf (module_at p i).header.name.text (global v.0.entity) = subst (λ z. IsOf (module_at p i).header.name.text z) v.1.1 (names_home i x e o) in
        law.lawful.distinct i (subst (λ n. i < n) (sym (length-map p.modules _)) (r.each i e).inside) (inl (outline_at p.modules i ∙ (sym h ∙ prelude_home v.0 v.1.0)))

    pub lawful_reading : IsLawful r.set prelude_variables
    lawful_reading = record {
      rank = λ i. rank_of i (bool_cases (r.read i));
      acyclic = λ i j o. let t = read_import i j o in lower i j (bool_cases (r.read i)) (bool_cases (r.read j)) t.0 t.1;
      known = λ i x o. known_scope i x (read_scope i x o) o;
      apart = apart_names;
      not_prelude = not_prelude_name;
    }

    pub distinct_names : (i : ℕ) → IsDistinct (names (r.set i).bindings)
    distinct_names i = ⊎_elim
        (λ e. let t = r.each i e in subst (λ z. IsDistinct (names z.bindings)) (sym t.is) (distinct_names_of_core (module_at p i) (with_prelude t.skeletons) t.core t.is_core))
        (λ n. subst (λ z. IsDistinct (names z.bindings)) (sym (r.others i n)) tt)
        (bool_cases (r.read i))

  -- two readings of a module read the same
  pub one_reading : (r s : Reading p) (i : ℕ) → r.read i ≡ true → s.read i ≡ true → r.set i ≡ s.set i
  one_reading r s i e f = let t = s.each i f in same_core r i e t.skeletons t.core t.have_skeletons t.is_core ∙ sym t.is
