-- What is noted at a node are its faults.
use Rattle.std.proofs.Common.{◌≡◌, ℕ, Bool, true, false, cond, ◌==◌, List, [], ◌∷◌, ◌++◌, map, Option, None, Some, ◌⊎◌, inl, inr, ⊎_elim, ◌↔◌, refl, sym, ap, ◌∙◌, subst, Decides, is_some}
use Rattle.std.specs.List.{Contains}
use Rattle.std.proofs.lemmas.Bool.Decides.{Decides-and, Decides-or, Decides-eqb}
use Rattle.hm_types.specs.declared.Entity.{Entity}
use Rattle.hm_types.specs.Interfaces.{Exports as Interface}
use Rattle.hm_syntax.specs.Names.{Identifier}
use Rattle.hm_syntax.specs.Trees.{TypeTrees, variable_type, constructor_type, Patterns, constructor_pattern, variable_expression, constructor_expression, Declarations}
use Rattle.hm_syntax.specs.declared.ast.Module.{Module}
use Rattle.hm_names.specs.declared.namespace.Namespace.{Namespace}
use Rattle.hm_names.specs.declared.namespace.Namespace.TheVariants.{Types, Constructors, Values}
use Rattle.hm_names.specs.declared.faults.Kind.{Kind}
use Rattle.hm_names.specs.declared.faults.Kind.TheVariants.{Duplicate, NoBinding, Unbound, Ambiguous, NonLinear, Arity, ClauseLength}
use Rattle.hm_names.specs.declared.faults.Fault.{Fault}
use Rattle.hm_names.specs.Texts.{same_text, is_text_among}
use Rattle.hm_names.specs.Variables.{texts, patterns_variables, clause_names, type_count, pattern_count}
use Rattle.hm_names.specs.Special.{Special, IsSpecial, special_of, special_arity}
use Rattle.hm_names.specs.Described.{TypeDescription, arity, type_meant, ConstructorDescription, constructor_meant}
use Rattle.hm_names.specs.Scope.{IsUnbound, IsAmbiguous, Means}
use Rattle.hm_names.specs.Walk.{Locals, Somewhere, at_expression, at_pattern, at_type, at_head, at_parameters, at_list}
use Rattle.hm_names.specs.Faults.Lists.{Repeats, ListFault, second_type, second_constructor, second_binding, second_signature, second_parameter, no_binding, type_names, constructor_names, binding_names, signed_names, other_lengths}
use Rattle.hm_names.specs.Faults.Names.{IsLocal, a_variable, a_constructor, a_pattern, a_type_constructor, NameFault, no_parameter, non_linear as is_non_linear, unbound as is_unbound, ambiguous as is_ambiguous}
use Rattle.hm_names.specs.Faults.Arities.{ArityFault, a_type as type_arity_fault, a_pattern as pattern_arity_fault, a_special as special_arity_fault, another_length}
use Rattle.hm_names.specs.Faults.Phases.{fault}
use Rattle.hm_names.specs.Bindings.{MeaningOf, unbound, ambiguous, entity, meaning_of, meaning_in}
use Rattle.hm_names.specs.Found.{Lookups, no_qualifier, is_local, is_special, stays, meaning_faults, name_faults, other_arity, type_arity_meant, constructor_arity_meant, pattern_arity, type_name_faults, pattern_name_faults, repeated, outside, non_linear, duplicates, parameter_faults, list_faults, declarations_faults}
use Rattle.hm_syntax.specs.Lists.{declarations}
use Rattle.hm_names.specs.NodeFaults.{NodeFault, arity_of_type, arity_of_constructor, AreLookupsOf}
use Rattle.hm_names.proofs.Members.{none_in, cases, first_by, rest, both, nothing_by, mapped}
use Rattle.hm_names.proofs.Meant.{text_decides, Meant, meant, one_meaning}
use Rattle.hm_names.proofs.Noted.{Leaves, in_declarations}

-- Texts among texts

pub among_decides : (x : List ℕ) (xs : List (List ℕ)) → Decides (is_text_among x xs) (Contains xs x)
among_decides x [] = ((λ e. cc), (λ c. absurd (none_in x c)))
among_decides x (y ∷ ys) =
    let h = Decides-or (same_text x y) (is_text_among x ys) (text_decides x y) (among_decides x ys) in
    ((λ t. ⊎_elim (λ e. first_by y ys x e) (λ c. rest y ys x c) (h.0 t)), (λ c. h.1 (cases y ys x c)))

pub local_decides : (xs : Locals) (n : Identifier) → Decides (is_local xs n) (IsLocal xs n)
local_decides xs n = Decides-and (no_qualifier n.qualifier) (is_text_among n.text xs) (bare n.qualifier) (among_decides n.text xs)
  where
    bare : (q : Option (List ℕ)) → Decides (no_qualifier q) (q ≡ None)
    bare None = ((λ _. refl), (λ _. refl))
    bare (Some x) = ((λ e. cc), (λ e. cc))

pub special_decides : (n : Identifier) → Decides (is_special n) (IsSpecial n)
special_decides n = go (special_of n) refl
  where
    go : (o : Option Special) → special_of n ≡ o → Decides (is_some o) (IsSpecial n)
    go None e = ((λ t. cc), (λ s. let z : Some s.0 ≡ None = sym s.1 ∙ e in cc))
    go (Some s) e = ((λ _. (s, e)), (λ _. refl))

-- Repeated and missing names

pub repeated_is : (seen : List (List ℕ)) (ns : List Identifier) (n : Identifier) → Contains (repeated seen ns) n ↔ ((Contains ns n × Contains seen n.text) ⊎ Repeats ns n)
unfolding repeated
repeated_is seen [] n = ((λ c. absurd (none_in n c)), (λ h. ⊎_elim (λ p. absurd (none_in n p.0)) (λ r. absurd r) h))
repeated_is seen (x ∷ ns) n = go (repeated_is (x.text ∷ seen) ns n) (is_text_among x.text seen) (among_decides x.text seen)
  where
    there : (Contains (repeated (x.text ∷ seen) ns) n ↔ ((Contains ns n × Contains (x.text ∷ seen) n.text) ⊎ Repeats ns n)) → Contains (repeated (x.text ∷ seen) ns) n → (Contains (x ∷ ns) n × Contains seen n.text) ⊎ Repeats (x ∷ ns) n
    there t c = ⊎_elim (λ p. ⊎_elim (λ e. inr (inl (p.0, e))) (λ o. inl (rest x ns n p.0, o)) (cases x.text seen n.text p.1)) (λ r. inr (inr r)) (t.0 c)

    again : (Contains (repeated (x.text ∷ seen) ns) n ↔ ((Contains ns n × Contains (x.text ∷ seen) n.text) ⊎ Repeats ns n)) → ((Contains ns n × Contains seen n.text) ⊎ Repeats (x ∷ ns) n) → Contains (repeated (x.text ∷ seen) ns) n
    again t h = t.1 (⊎_elim (λ p. inl (p.0, rest x.text seen n.text p.1)) (λ r. ⊎_elim (λ p. inl (p.0, first_by x.text seen n.text p.1)) (λ q. inr q) r) h)

    go : (Contains (repeated (x.text ∷ seen) ns) n ↔ ((Contains ns n × Contains (x.text ∷ seen) n.text) ⊎ Repeats ns n)) → (b : Bool) → Decides b (Contains seen x.text) → Contains (cond b (x ∷ repeated (x.text ∷ seen) ns) (repeated (x.text ∷ seen) ns)) n ↔ ((Contains (x ∷ ns) n × Contains seen n.text) ⊎ Repeats (x ∷ ns) n)
    go t true d = (
      (λ c. ⊎_elim (λ e. inl (first_by x ns n e, subst (λ (z : Identifier). Contains seen z.text) (sym e) (d.0 refl))) (there t) (cases x (repeated (x.text ∷ seen) ns) n c)),
      (λ h. ⊎_elim (λ p. ⊎_elim (λ e. first_by x _ n e) (λ o. rest x _ n (again t (inl (o, p.1)))) (cases x ns n p.0)) (λ r. rest x _ n (again t (inr r))) h),
    )
    go t false d = (
      there t,
      (λ h. ⊎_elim (λ p. ⊎_elim (λ e. let z : false ≡ true = d.1 (subst (λ (z : Identifier). Contains seen z.text) e p.1) in absurd (cc)) (λ o. again t (inl (o, p.1))) (cases x ns n p.0)) (λ r. again t (inr r)) h),
    )

pub repeats_is : (ns : List Identifier) (n : Identifier) → Contains (repeated [] ns) n ↔ Repeats ns n
repeats_is ns n = ((λ c. ⊎_elim (λ p. absurd (none_in n.text p.1)) (λ r. r) ((repeated_is [] ns n).0 c)), (λ r. (repeated_is [] ns n).1 (inr r)))

pub outside_is : (xs : List (List ℕ)) (ns : List Identifier) (n : Identifier) → Contains (outside xs ns) n ↔ (Contains ns n × ¬ (Contains xs n.text))
unfolding outside
outside_is xs [] n = ((λ c. absurd (none_in n c)), (λ h. absurd (none_in n h.0)))
outside_is xs (x ∷ ns) n = go (outside_is xs ns n) (is_text_among x.text xs) (among_decides x.text xs)
  where
    go : (Contains (outside xs ns) n ↔ (Contains ns n × ¬ (Contains xs n.text))) → (b : Bool) → Decides b (Contains xs x.text) → Contains (cond b (outside xs ns) (x ∷ outside xs ns)) n ↔ (Contains (x ∷ ns) n × ¬ (Contains xs n.text))
    go t true d = (
      (λ c. let h = t.0 c in (rest x ns n h.0, h.1)),
      (λ h. ⊎_elim (λ e. absurd (h.1 (subst (λ (z : Identifier). Contains xs z.text) (sym e) (d.0 refl)))) (λ o. t.1 (o, h.1)) (cases x ns n h.0)),
    )
    go t false d = (
      (λ c. ⊎_elim (λ e. (first_by x ns n e, λ i. let z : false ≡ true = d.1 (subst (λ (z : Identifier). Contains xs z.text) e i) in cc)) (λ o. let h = t.0 o in (rest x ns n h.0, h.1)) (cases x (outside xs ns) n c)),
      (λ h. ⊎_elim (λ e. first_by x _ n e) (λ o. rest x _ n (t.1 (o, h.1))) (cases x ns n h.0)),
    )

-- Names that are looked up

pub unless : {P : Type 0} (b : Bool) → Decides b P → (P → ⊥) → b ≡ false
unless true d f = absurd (f (d.0 refl))
unless false d f = refl

module _ (m : Module) (fs : List Interface) (k : Lookups) (known : AreLookupsOf m fs k) (f : Fault) where
  -- the name means nothing, or too much
  abbrev Astray : Namespace → Identifier → Type 0
  Astray s n = (IsUnbound m fs s n × (f ≡ fault Unbound n)) ⊎ (IsAmbiguous m fs s n × (f ≡ fault Ambiguous n))

  astray : (s : Namespace) (n : Identifier) → Contains (meaning_faults (meaning_of k.pairs s n) n) f ↔ Astray s n
  astray s n = go (meaning_of k.pairs s n) (meant m fs k.pairs known.scope s n)
    where
      go : (w : MeaningOf) → Meant m fs s n w → Contains (meaning_faults w n) f ↔ Astray s n
      go unbound t = (
        (λ c. inl (t, ⊎_elim (λ e. e) (λ o. absurd (none_in f o)) (cases (fault Unbound n) [] f c))),
        (λ h. ⊎_elim (λ p. first_by (fault Unbound n) [] f p.1) (λ p. let z : unbound ≡ ambiguous = one_meaning m fs s n unbound ambiguous t p.0 in absurd (cc)) h),
      )
      go ambiguous t = (
        (λ c. inr (t, ⊎_elim (λ e. e) (λ o. absurd (none_in f o)) (cases (fault Ambiguous n) [] f c))),
        (λ h. ⊎_elim (λ p. let z : unbound ≡ ambiguous = one_meaning m fs s n unbound ambiguous p.0 t in absurd (cc)) (λ p. first_by (fault Ambiguous n) [] f p.1) h),
      )
      go (entity e) t = (
        (λ c. absurd (none_in f c)),
        (λ h. ⊎_elim (λ p. let z : unbound ≡ entity e = one_meaning m fs s n unbound (entity e) p.0 t in absurd (cc)) (λ p. let z : ambiguous ≡ entity e = one_meaning m fs s n ambiguous (entity e) p.0 t in absurd (cc)) h),
      )

  -- a name that stays as it is has isnt faults
  looked : (s : Namespace) (xs : Locals) (n : Identifier) (S : Bool) → stays xs s n ≡ S → Contains (name_faults k.pairs s xs n) f ↔ ((S ≡ false) × Astray s n)
  unfolding name_faults meaning_in
  looked s xs n S e = go S e
    where
      go : (b : Bool) → stays xs s n ≡ b → Contains (cond (stays xs s n) [] (meaning_faults (meaning_of k.pairs s n) n)) f ↔ ((b ≡ false) × Astray s n)
      go true q = subst (λ b. Contains (cond b [] (meaning_faults (meaning_of k.pairs s n) n)) f ↔ ((true ≡ false) × Astray s n)) (sym q) ((λ c. absurd (none_in f c)), (λ h. let z : true ≡ false = h.0 in absurd (cc)))
      go false q = subst (λ b. Contains (cond b [] (meaning_faults (meaning_of k.pairs s n) n)) f ↔ ((false ≡ false) × Astray s n)) (sym q) ((λ c. (refl, (astray s n).0 c)), (λ h. (astray s n).1 h.1))

  local_looked : (xs : Locals) (n : Identifier) → Contains (name_faults k.pairs Values xs n) f ↔ ((¬ (IsLocal xs n)) × Astray Values n)
  local_looked xs n =
      let h = looked Values xs n (is_local xs n) refl in
      let d = local_decides xs n in
      ((λ c. let p = h.0 c in (λ l. let z : false ≡ true = sym p.0 ∙ d.1 l in cc, p.1)), (λ p. h.1 (unless (is_local xs n) d p.0, p.1)))

  special_looked : (xs : Locals) (n : Identifier) → Contains (name_faults k.pairs Constructors xs n) f ↔ ((¬ (IsSpecial n)) × Astray Constructors n)
  special_looked xs n =
      let h = looked Constructors xs n (is_special n) refl in
      let d = special_decides n in
      ((λ c. let p = h.0 c in (λ l. let z : false ≡ true = sym p.0 ∙ d.1 l in cc, p.1)), (λ p. h.1 (unless (is_special n) d p.0, p.1)))

  type_looked : (xs : Locals) (n : Identifier) → Contains (name_faults k.pairs Types xs n) f ↔ Astray Types n
  type_looked xs n = let h = looked Types xs n false refl in ((λ c. (h.0 c).1), (λ p. h.1 (refl, p)))

  -- Variables and constructors

  variable_name : (xs : Locals) (n : Identifier) (w : Kind) (j : Identifier) → NameFault m fs xs (at_expression (variable_expression n)) w j → f ≡ fault w j → (¬ (IsLocal xs n)) × Astray Values n
  variable_name xs n w j (is_unbound (a_variable isnt) i) e = (isnt, inl (i, e))
  variable_name xs n w j (is_ambiguous (a_variable isnt) i) e = (isnt, inr (i, e))

  constructor_name : (xs : Locals) (n : Identifier) (w : Kind) (j : Identifier) → NameFault m fs xs (at_expression (constructor_expression n)) w j → f ≡ fault w j → (¬ (IsSpecial n)) × Astray Constructors n
  constructor_name xs n w j (is_unbound (a_constructor isnt) i) e = (isnt, inl (i, e))
  constructor_name xs n w j (is_ambiguous (a_constructor isnt) i) e = (isnt, inr (i, e))

  pattern_name : (xs : Locals) (n : Identifier) (ps : Patterns) (w : Kind) (j : Identifier) → NameFault m fs xs (at_pattern (constructor_pattern n ps)) w j → f ≡ fault w j → (¬ (IsSpecial n)) × Astray Constructors n
  pattern_name xs n ps w j (is_unbound (a_pattern isnt) i) e = (isnt, inl (i, e))
  pattern_name xs n ps w j (is_ambiguous (a_pattern isnt) i) e = (isnt, inr (i, e))

  type_constructor_name : (xs : Locals) (n : Identifier) (ts : TypeTrees) (w : Kind) (j : Identifier) → NameFault m fs xs (at_type (constructor_type n ts)) w j → f ≡ fault w j → Astray Types n
  type_constructor_name xs n ts w j (is_unbound a_type_constructor i) e = inl (i, e)
  type_constructor_name xs n ts w j (is_ambiguous a_type_constructor i) e = inr (i, e)

  type_variable_name : (xs : Locals) (n : Identifier) (w : Kind) (j : Identifier) → NameFault m fs xs (at_type (variable_type n)) w j → ⊥
  type_variable_name xs n w j (is_unbound u i) = elim u [ ]
  type_variable_name xs n w j (is_ambiguous u i) = elim u [ ]

  variable_leaf : (xs : Locals) (n : Identifier) → Contains (name_faults k.pairs Values xs n) f ↔ NodeFault m fs f xs (at_expression (variable_expression n))
  variable_leaf xs n = (
    (λ c. let p = (local_looked xs n).0 c in ⊎_elim (λ a. record { kind = Unbound; name = n; stands = inr (inl (is_unbound (a_variable p.0) a.0)); is = a.1 }) (λ a. record { kind = Ambiguous; name = n; stands = inr (inl (is_ambiguous (a_variable p.0) a.0)); is = a.1 }) p.1),
    (λ h. (local_looked xs n).1 (⊎_elim (λ l. elim l [ ]) (λ o. ⊎_elim (λ l. variable_name xs n h.kind h.name l h.is) (λ l. elim l [ ]) o) h.stands)),
  )

  constructor_leaf : (xs : Locals) (n : Identifier) → Contains (name_faults k.pairs Constructors xs n) f ↔ NodeFault m fs f xs (at_expression (constructor_expression n))
  constructor_leaf xs n = (
    (λ c. let p = (special_looked xs n).0 c in ⊎_elim (λ a. record { kind = Unbound; name = n; stands = inr (inl (is_unbound (a_constructor p.0) a.0)); is = a.1 }) (λ a. record { kind = Ambiguous; name = n; stands = inr (inl (is_ambiguous (a_constructor p.0) a.0)); is = a.1 }) p.1),
    (λ h. (special_looked xs n).1 (⊎_elim (λ l. elim l [ ]) (λ o. ⊎_elim (λ l. constructor_name xs n h.kind h.name l h.is) (λ l. elim l [ ]) o) h.stands)),
  )

  type_variable_leaf : (xs : Locals) (n : Identifier) → NodeFault m fs f xs (at_type (variable_type n)) → ⊥
  type_variable_leaf xs n h = ⊎_elim (λ l. elim l [ ]) (λ o. ⊎_elim (λ l. type_variable_name xs n h.kind h.name l) (λ l. elim l [ ]) o) h.stands

  -- Numbers of arguments

  wrong : (o : Option ℕ) (count : ℕ) (n : Identifier) → Contains (other_arity o count n) f ↔ ((a : ℕ) × ((o ≡ Some a) × ((¬ (count ≡ a)) × (f ≡ fault Arity n))))
  wrong None count n = nothing_by f (λ h. let z : None ≡ Some h.0 = h.1.0 in cc)
  wrong (Some a) count n = go (count == a) (Decides-eqb count a)
    where
      go : (b : Bool) → Decides b (count ≡ a) → Contains (cond b [] (fault Arity n ∷ [])) f ↔ ((x : ℕ) × ((Some a ≡ Some x) × ((¬ (count ≡ x)) × (f ≡ fault Arity n))))
      go true d = nothing_by f (λ h. let z : Some a ≡ Some h.0 = h.1.0 in let same : a ≡ h.0 = cc in h.1.1.0 (d.0 refl ∙ same))
      go false d = (
        (λ c. (a, (refl, ((λ e. let z : false ≡ true = d.1 e in cc), ⊎_elim (λ e. e) (λ o. absurd (none_in f o)) (cases (fault Arity n) [] f c))))),
        (λ h. first_by (fault Arity n) [] f h.1.1.1),
      )

  type_described : (o : Option TypeDescription) (a : ℕ) → arity_of_type o ≡ Some a → (d : TypeDescription) × ((o ≡ Some d) × (arity d.meaning ≡ a))
  type_described None a e = absurd (cc)
  type_described (Some d) a e = (d, (refl, cc))

  constructor_described : (o : Option ConstructorDescription) (a : ℕ) → arity_of_constructor o ≡ Some a → (d : ConstructorDescription) × ((o ≡ Some d) × (d.arguments ≡ a))
  constructor_described None a e = absurd (cc)
  constructor_described (Some d) a e = (d, (refl, cc))

  -- what the arity is that is looked up
  type_arity_is : (n : Identifier) (a : ℕ) → type_arity_meant k (meaning_of k.pairs Types n) ≡ Some a → (e : Entity) × ((d : TypeDescription) × (Means m fs Types n e × ((type_meant m.header.name.text m.decls fs e ≡ Some d) × (arity d.meaning ≡ a))))
  type_arity_is n a = go (meaning_of k.pairs Types n) (meant m fs k.pairs known.scope Types n)
    where
      go : (w : MeaningOf) → Meant m fs Types n w → type_arity_meant k w ≡ Some a → (e : Entity) × ((d : TypeDescription) × (Means m fs Types n e × ((type_meant m.header.name.text m.decls fs e ≡ Some d) × (arity d.meaning ≡ a))))
      go unbound t q = absurd (cc)
      go ambiguous t q = absurd (cc)
      go (entity e) t q = let h = type_described (type_meant m.header.name.text m.decls fs e) a (sym (known.types e) ∙ q) in (e, (h.0, (t, h.1)))

  constructor_arity_is : (n : Identifier) (a : ℕ) → constructor_arity_meant k (meaning_of k.pairs Constructors n) ≡ Some a → (e : Entity) × ((d : ConstructorDescription) × (Means m fs Constructors n e × ((constructor_meant m.header.name.text m.decls fs e ≡ Some d) × (d.arguments ≡ a))))
  constructor_arity_is n a = go (meaning_of k.pairs Constructors n) (meant m fs k.pairs known.scope Constructors n)
    where
      go : (w : MeaningOf) → Meant m fs Constructors n w → constructor_arity_meant k w ≡ Some a → (e : Entity) × ((d : ConstructorDescription) × (Means m fs Constructors n e × ((constructor_meant m.header.name.text m.decls fs e ≡ Some d) × (d.arguments ≡ a))))
      go unbound t q = absurd (cc)
      go ambiguous t q = absurd (cc)
      go (entity e) t q = let h = constructor_described (constructor_meant m.header.name.text m.decls fs e) a (sym (known.constructors e) ∙ q) in (e, (h.0, (t, h.1)))

  type_arity_back : (xs : Locals) (n : Identifier) (ts : TypeTrees) (w : Kind) (j : Identifier) → ArityFault m fs (at_type (constructor_type n ts)) w j → f ≡ fault w j
      → (a : ℕ) × ((type_arity_meant k (meaning_of k.pairs Types n) ≡ Some a) × ((¬ (type_count ts ≡ a)) × (f ≡ fault Arity n)))
  type_arity_back xs n ts w j (type_arity_fault {e = e} {d = d} t i isnt) q =
      let is : meaning_of k.pairs Types n ≡ entity e = one_meaning m fs Types n (meaning_of k.pairs Types n) (entity e) (meant m fs k.pairs known.scope Types n) t in
      (arity d.meaning, (ap (type_arity_meant k) is ∙ (known.types e ∙ ap arity_of_type i), (isnt, q)))

  type_leaf : (xs : Locals) (n : Identifier) (ts : TypeTrees) → Contains (type_name_faults k n (type_count ts)) f ↔ NodeFault m fs f xs (at_type (constructor_type n ts))
  unfolding type_name_faults meaning_in
  type_leaf xs n ts =
      let h = both (name_faults k.pairs Types [] n) (other_arity (type_arity_meant k (meaning_of k.pairs Types n)) (type_count ts) n) f (type_looked [] n) (wrong (type_arity_meant k (meaning_of k.pairs Types n)) (type_count ts) n) in (
        (λ c. ⊎_elim (λ p. ⊎_elim (λ a. record { kind = Unbound; name = n; stands = inr (inl (is_unbound a_type_constructor a.0)); is = a.1 }) (λ a. record { kind = Ambiguous; name = n; stands = inr (inl (is_ambiguous a_type_constructor a.0)); is = a.1 }) p)
            (λ p. let q = type_arity_is n p.0 p.1.0 in record { kind = Arity; name = n; stands = inr (inr (type_arity_fault q.1.1.0 q.1.1.1.0 (λ z. p.1.1.0 (z ∙ q.1.1.1.1)))); is = p.1.1.1 }) (h.0 c)),
        (λ z. h.1 (⊎_elim (λ l. elim l [ ]) (λ o. ⊎_elim (λ l. inl (type_constructor_name xs n ts z.kind z.name l z.is)) (λ l. inr (type_arity_back xs n ts z.kind z.name l z.is)) o) z.stands)),
      )

  pattern_there : (xs : Locals) (n : Identifier) (ps : Patterns) (o : Option Special) → special_of n ≡ o
      → ((a : ℕ) × ((pattern_arity k o n ≡ Some a) × ((¬ (pattern_count ps ≡ a)) × (f ≡ fault Arity n)))) → NodeFault m fs f xs (at_pattern (constructor_pattern n ps))
  unfolding meaning_in
  pattern_there xs n ps (Some s) is p = record { kind = Arity; name = n; stands = inr (inr (special_arity_fault is (λ z. let same : special_arity s ≡ p.0 = (let w : Some (special_arity s) ≡ Some p.0 = p.1.0 in cc) in p.1.1.0 (z ∙ same)))); is = p.1.1.1 }
  pattern_there xs n ps None is p =
      let q = constructor_arity_is n p.0 p.1.0 in
      record { kind = Arity; name = n; stands = inr (inr (pattern_arity_fault (λ s. let z : None ≡ Some s.0 = sym is ∙ s.1 in cc) q.1.1.0 q.1.1.1.0 (λ z. p.1.1.0 (z ∙ q.1.1.1.1)))); is = p.1.1.1 }

  pattern_back : (n : Identifier) (ps : Patterns) (w : Kind) (j : Identifier) → ArityFault m fs (at_pattern (constructor_pattern n ps)) w j → f ≡ fault w j
      → (a : ℕ) × ((pattern_arity k (special_of n) n ≡ Some a) × ((¬ (pattern_count ps ≡ a)) × (f ≡ fault Arity n)))
  unfolding meaning_in
  pattern_back n ps w j (pattern_arity_fault {e = e} {d = d} isnt t i ne) q = (d.arguments, (go (special_of n) refl, (ne, q)))
    where
      go : (o : Option Special) → special_of n ≡ o → pattern_arity k o n ≡ Some d.arguments
      go None is =
          let at : meaning_of k.pairs Constructors n ≡ entity e = one_meaning m fs Constructors n (meaning_of k.pairs Constructors n) (entity e) (meant m fs k.pairs known.scope Constructors n) t in
          ap (constructor_arity_meant k) at ∙ (known.constructors e ∙ ap arity_of_constructor i)
      go (Some s) is = absurd (isnt (s, is))
  pattern_back n ps w j (special_arity_fault {s = s} i ne) q = (special_arity s, (ap (λ o. pattern_arity k o n) i, (ne, q)))

  pattern_leaf : (xs : Locals) (n : Identifier) (ps : Patterns) → Contains (pattern_name_faults k n (pattern_count ps)) f ↔ NodeFault m fs f xs (at_pattern (constructor_pattern n ps))
  unfolding pattern_name_faults
  pattern_leaf xs n ps =
      let h = both (name_faults k.pairs Constructors [] n) (other_arity (pattern_arity k (special_of n) n) (pattern_count ps) n) f (special_looked [] n) (wrong (pattern_arity k (special_of n) n) (pattern_count ps) n) in (
        (λ c. ⊎_elim (λ p. ⊎_elim (λ a. record { kind = Unbound; name = n; stands = inr (inl (is_unbound (a_pattern p.0) a.0)); is = a.1 }) (λ a. record { kind = Ambiguous; name = n; stands = inr (inl (is_ambiguous (a_pattern p.0) a.0)); is = a.1 }) p.1)
            (λ p. pattern_there xs n ps (special_of n) refl p) (h.0 c)),
        (λ z. h.1 (⊎_elim (λ l. elim l [ ]) (λ o. ⊎_elim (λ l. inl (pattern_name xs n ps z.kind z.name l z.is)) (λ l. inr (pattern_back n ps z.kind z.name l z.is)) o) z.stands)),
      )

  -- Heads, parameters and lists

  head_back : (xs : Locals) (ps : Patterns) (w : Kind) (j : Identifier) → NameFault m fs xs (at_head ps) w j → f ≡ fault w j → (n : Identifier) × (Repeats (patterns_variables ps) n × (f ≡ fault NonLinear n))
  head_back xs ps w j (is_unbound u i) e = elim u [ ]
  head_back xs ps w j (is_ambiguous u i) e = elim u [ ]
  head_back xs ps w j (is_non_linear r) e = (j, (r, e))

  head_leaf : (xs : Locals) (ps : Patterns) → Contains (non_linear (patterns_variables ps)) f ↔ NodeFault m fs f xs (at_head ps)
  head_leaf xs ps =
      let h = mapped (fault NonLinear) (repeated [] (patterns_variables ps)) f in (
        (λ c. let p = h.0 c in record { kind = NonLinear; name = p.0; stands = inr (inl (is_non_linear ((repeats_is (patterns_variables ps) p.0).0 p.1.0))); is = p.1.1 }),
        (λ z. let p : (n : Identifier) × (Repeats (patterns_variables ps) n × (f ≡ fault NonLinear n)) = ⊎_elim (λ l. elim l [ ]) (λ o. ⊎_elim (λ l. head_back xs ps z.kind z.name l z.is) (λ l. elim l [ ]) o) z.stands in
            h.1 (p.0, ((repeats_is (patterns_variables ps) p.0).1 p.1.0, p.1.1))),
      )

  duplicated : (ns : List Identifier) → Contains (duplicates ns) f ↔ ((n : Identifier) × (Repeats ns n × (f ≡ fault Duplicate n)))
  duplicated ns =
      let h = mapped (fault Duplicate) (repeated [] ns) f in
      ((λ c. let p = h.0 c in (p.0, ((repeats_is ns p.0).0 p.1.0, p.1.1))), (λ p. h.1 (p.0, ((repeats_is ns p.0).1 p.1.0, p.1.1))))

  missing : (w : Kind) (xs : List (List ℕ)) (ns : List Identifier) → Contains (map (fault w) (outside xs ns)) f ↔ ((n : Identifier) × ((Contains ns n × ¬ (Contains xs n.text)) × (f ≡ fault w n)))
  missing w xs ns =
      let h = mapped (fault w) (outside xs ns) f in
      ((λ c. let p = h.0 c in (p.0, ((outside_is xs ns p.0).0 p.1.0, p.1.1))), (λ p. h.1 (p.0, ((outside_is xs ns p.0).1 p.1.0, p.1.1))))

  parameter_back : (xs : Locals) (ps vs : List Identifier) (w : Kind) (j : Identifier) → NameFault m fs xs (at_parameters ps vs) w j → f ≡ fault w j → (n : Identifier) × ((Contains vs n × ¬ (Contains (texts ps) n.text)) × (f ≡ fault Unbound n))
  parameter_back xs ps vs w j (is_unbound u i) e = elim u [ ]
  parameter_back xs ps vs w j (is_ambiguous u i) e = elim u [ ]
  parameter_back xs ps vs w j (no_parameter c isnt) e = (j, ((c, isnt), e))

  second_back : (ps vs : List Identifier) (w : Kind) (j : Identifier) → ListFault (at_parameters ps vs) w j → f ≡ fault w j → (n : Identifier) × (Repeats ps n × (f ≡ fault Duplicate n))
  second_back ps vs w j (second_parameter r) e = (j, (r, e))

  parameters_leaf : (xs : Locals) (ps vs : List Identifier) → Contains (parameter_faults ps vs) f ↔ NodeFault m fs f xs (at_parameters ps vs)
  parameters_leaf xs ps vs =
      let h = both (duplicates ps) (map (fault Unbound) (outside (texts ps) vs)) f (duplicated ps) (missing Unbound (texts ps) vs) in (
        (λ c. ⊎_elim (λ p. record { kind = Duplicate; name = p.0; stands = inl (second_parameter p.1.0); is = p.1.1 }) (λ p. record { kind = Unbound; name = p.0; stands = inr (inl (no_parameter p.1.0.0 p.1.0.1)); is = p.1.1 }) (h.0 c)),
        (λ z. h.1 (⊎_elim (λ l. inl (second_back ps vs z.kind z.name l z.is)) (λ o. ⊎_elim (λ l. inr (parameter_back xs ps vs z.kind z.name l z.is)) (λ l. elim l [ ]) o) z.stands)),
      )

  -- what can be wrong with a list
  abbrev ListWrong : Declarations → Type 0
  ListWrong ds = ((n : Identifier) × (Repeats (type_names ds) n × (f ≡ fault Duplicate n))) ⊎ (((n : Identifier) × (Repeats (constructor_names ds) n × (f ≡ fault Duplicate n)))
      ⊎ (((n : Identifier) × (Repeats (binding_names None ds) n × (f ≡ fault Duplicate n))) ⊎ (((n : Identifier) × (Repeats (signed_names ds) n × (f ≡ fault Duplicate n)))
      ⊎ (((n : Identifier) × ((Contains (signed_names ds) n × ¬ (Contains (texts (clause_names ds)) n.text)) × (f ≡ fault NoBinding n))) ⊎ ((n : Identifier) × (Contains (other_lengths None ds) n × (f ≡ fault ClauseLength n)))))))

  list_back : (ds : Declarations) (w : Kind) (j : Identifier) → ListFault (at_list ds) w j → f ≡ fault w j → ListWrong ds
  list_back ds w j (second_type r) e = inl (j, (r, e))
  list_back ds w j (second_constructor r) e = inr (inl (j, (r, e)))
  list_back ds w j (second_binding r) e = inr (inr (inl (j, (r, e))))
  list_back ds w j (second_signature r) e = inr (inr (inr (inl (j, (r, e)))))
  list_back ds w j (no_binding c isnt) e = inr (inr (inr (inr (inl (j, ((c, isnt), e))))))

  length_back : (ds : Declarations) (w : Kind) (j : Identifier) → ArityFault m fs (at_list ds) w j → f ≡ fault w j → ListWrong ds
  length_back ds w j (another_length c) e = inr (inr (inr (inr (inr (j, (c, e))))))

  no_name_at_list : (xs : Locals) (ds : Declarations) (w : Kind) (j : Identifier) → NameFault m fs xs (at_list ds) w j → ⊥
  no_name_at_list xs ds w j (is_unbound u i) = elim u [ ]
  no_name_at_list xs ds w j (is_ambiguous u i) = elim u [ ]

  list_there : (xs : Locals) (ds : Declarations) → ListWrong ds → NodeFault m fs f xs (at_list ds)
  list_there xs ds (inl p) = record { kind = Duplicate; name = p.0; stands = inl (second_type p.1.0); is = p.1.1 }
  list_there xs ds (inr (inl p)) = record { kind = Duplicate; name = p.0; stands = inl (second_constructor p.1.0); is = p.1.1 }
  list_there xs ds (inr (inr (inl p))) = record { kind = Duplicate; name = p.0; stands = inl (second_binding p.1.0); is = p.1.1 }
  list_there xs ds (inr (inr (inr (inl p)))) = record { kind = Duplicate; name = p.0; stands = inl (second_signature p.1.0); is = p.1.1 }
  list_there xs ds (inr (inr (inr (inr (inl p))))) = record { kind = NoBinding; name = p.0; stands = inl (no_binding p.1.0.0 p.1.0.1); is = p.1.1 }
  list_there xs ds (inr (inr (inr (inr (inr p))))) = record { kind = ClauseLength; name = p.0; stands = inr (inr (another_length p.1.0)); is = p.1.1 }

  list_leaf : (xs : Locals) (ds : Declarations) → Contains (list_faults ds) f ↔ NodeFault m fs f xs (at_list ds)
  unfolding list_faults
  list_leaf xs ds =
      let h : Contains (list_faults ds) f ↔ ListWrong ds = both _ _ f (duplicated (type_names ds)) (both _ _ f (duplicated (constructor_names ds)) (both _ _ f (duplicated (binding_names None ds)) (both _ _ f (duplicated (signed_names ds)) (both _ _ f (missing NoBinding (texts (clause_names ds)) (signed_names ds)) (mapped (fault ClauseLength) (other_lengths None ds) f))))) in (
        (λ c. list_there xs ds (h.0 c)),
        (λ z. h.1 (⊎_elim (λ l. list_back ds z.kind z.name l z.is) (λ o. ⊎_elim (λ l. absurd (no_name_at_list xs ds z.kind z.name l)) (λ l. length_back ds z.kind z.name l z.is) o) z.stands)),
      )

  pub leaves : Leaves k f (NodeFault m fs f)
  leaves = record {
    type_variable = type_variable_leaf;
    type_name = type_leaf;
    pattern_name = pattern_leaf;
    variable = variable_leaf;
    constructor = constructor_leaf;
    head = head_leaf;
    parameters = parameters_leaf;
    list = list_leaf;
  }

pub noted_somewhere : (m : Module) (fs : List Interface) (k : Lookups) → AreLookupsOf m fs k → (f : Fault) → Contains (list_faults (declarations m.decls) ++ declarations_faults k [] (declarations m.decls)) f ↔ Somewhere m (NodeFault m fs f)
noted_somewhere m fs k known f =
    both (list_faults (declarations m.decls)) (declarations_faults k [] (declarations m.decls)) f ((leaves m fs k known f).list [] (declarations m.decls)) (in_declarations k f (NodeFault m fs f) (leaves m fs k known f) [] (declarations m.decls))
