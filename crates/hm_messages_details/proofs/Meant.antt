-- Names that mean one entity alone.
use Rattle.std.proofs.Common.{◌≡◌, ◌∙◌, ◌≤◌, ◌<◌, ◌+◌, ℕ, true, List, Option, None, Some, All, take, get_or, length, refl, subst, sym, ap, inl, inr, ⊎_elim}
use Rattle.std.proofs.lemmas.List.{take_all}
use Rattle.std.proofs.lemmas.List.Elements.{All-contains, All-more}
use Rattle.std.specs.Prelude.{Contains}
use Rattle.hm_types.specs.declared.Entity.{Entity}
use Rattle.hm_types.specs.Interfaces.{Exports as Interface}
use Rattle.hm_syntax.specs.Names.{Identifier}
use Rattle.hm_syntax.specs.declared.ast.Import.{Import}
use Rattle.hm_syntax.specs.declared.ast.Module.{Module}
use Rattle.hm_names.specs.Bindings.{IsScopeOf, Pair}
use Rattle.hm_names.specs.Scope.{Brings, InScope, Means, added, declared, imported, known_as, prelude_name, written}
use Rattle.hm_names.specs.declared.namespace.Namespace.{Namespace}
use Rattle.hm_messages_details.specs.Candidates.{Candidate, HasLine, IsAlone, IsByPrelude, IsCandidate, IsImplicit, IsImportLine, IsInLine, IsOfImports, IsOther, IsUnder, MeansOnly}

-- what holds for each element so far
pub each_more : {X : Type 0} (P : X → Type 0) (xs : List X) (i : ℕ) (x : X) → i < length xs → x ≡ get_or xs i x → All P (take i xs) → P x → All P (take (i + 1) xs)
each_more P xs i x inside is before h = All-more P xs i x inside before (subst P is h)

pub each_end : {X : Type 0} (P : X → Type 0) (xs : List X) (i : ℕ) → length xs ≤ i → All P (take i xs) → All P xs
each_end P xs i past h = subst (All P) (take_all i xs past) h

carried : (m : Module) (fs : List Interface) (s t : Namespace) (q r : Option (List ℕ)) (x y : List ℕ) (d e : Entity) → s ≡ t → q ≡ r → x ≡ y → d ≡ e → InScope m fs s q x d → InScope m fs t r y e
carried m fs s t q r x y d e space qualifier text entity h =
    subst (λ v. InScope m fs v r y e) space (subst (λ v. InScope m fs s v y e) qualifier (subst (λ v. InScope m fs s q v e) text (subst (λ v. InScope m fs s q x v) entity h)))

-- one pair among all, and no other entity
pub found_alone : (pairs : List Pair) (space : Namespace) (q : List ℕ) (e : Entity) (p : Pair) → Contains pairs p → IsUnder space q e p → All (MeansOnly space q e) pairs → IsAlone pairs space q e
found_alone pairs space q e p among under each = record { pair = p; among = among; under = under; each = each }

means : (m : Module) (fs : List Interface) (pairs : List Pair) (space : Namespace) (q : List ℕ) (e : Entity) (n : Identifier) → IsScopeOf m fs pairs → IsAlone pairs space q e → n.qualifier ≡ Some q → n.text ≡ e.name → Means m fs space n e
means m fs pairs space q e n scope found qualifier text = record {
  in_scope = carried m fs found.pair.space space found.pair.qualifier n.qualifier found.pair.text n.text found.pair.entity e found.under.space_is
      (found.under.qualifier_is ∙ sym qualifier) (found.under.text_is ∙ sym text) found.under.entity_is ((scope found.pair).0 found.among);
  alone = λ d h.
      let p : Pair = record { space = space; qualifier = n.qualifier; text = n.text; entity = d } in
      All-contains (MeansOnly space q e) pairs p found.each ((scope p).1 h) refl qualifier text;
}

some_is : (q r : List ℕ) → Some q ≡ Some r → q ≡ r
some_is q r e = cc

-- a name with a qualifier that neither the module nor an implicit Prelude gives is brought in by a written import with that qualifier
abbrev Brought : Module → List Interface → Namespace → Entity → List ℕ → Type 0
Brought m fs space e q = (i : Import) × ((f : Interface) × (Contains m.header.imports i × (Contains fs f × ((f.name ≡ i.name.text) × (Brings f i space e.name e × (known_as i ≡ q))))))

no_qualifier : {X : Type 0} (q : List ℕ) → Some q ≡ None → X
no_qualifier q e = cc

brought : (m : Module) (fs : List Interface) (space : Namespace) (e : Entity) (q : List ℕ) → IsOfImports m q → InScope m fs space (Some q) e.name e → Brought m fs space e q
brought m fs space e q of (declared d (inl none) is) = no_qualifier q none
brought m fs space e q of (declared d (inr own) is) = absurd (of.not_own (some_is q m.header.name.text own))
brought m fs space e q of (imported by within from brings (inl bare)) = no_qualifier q bare.0
brought m fs space e q of (imported {i} {f} (written there) within from brings (inr known)) = (i, (f, (there, (within, (from, (brings, sym (some_is q (known_as i) known)))))))
brought m fs space e q of (imported {i} {f} (added none is) within from brings (inr known)) =
    let prelude : q ≡ prelude_name = some_is q (known_as i) known ∙ ap known_as is in
    absurd (⊎_elim (λ no. no prelude) (λ by. none by.0 by.1 by.2) of.not_implicit)

pub with_line : (m : Module) (fs : List Interface) (pairs : List Pair) (space : Namespace) (q : List ℕ) (e : Entity) (l : ℕ) → IsScopeOf m fs pairs → IsAlone pairs space q e
    → IsOfImports m q → HasLine m.header.imports q l → IsImportLine m fs space e q l
with_line m fs pairs space q e l scope found of has =
    let p = found.pair in
    let there : InScope m fs space (Some q) e.name e =
    carried m fs p.space space p.qualifier (Some q) p.text e.name p.entity e found.under.space_is found.under.qualifier_is found.under.text_is found.under.entity_is ((scope p).0 found.among) in
    let by : Brought m fs space e q = brought m fs space e q of there in
    record {
      import = by.0;
      interface = by.1.0;
      written = by.1.1.0;
      among = by.1.1.1.0;
      from = by.1.1.1.1.0;
      brings = by.1.1.1.1.1.0;
      known = by.1.1.1.1.1.1;
      each = has.each;
    }

-- what an import brings in is in scope with its qualifier too
pub implicit_alone : (m : Module) (fs : List Interface) (pairs : List Pair) (space : Namespace) (e : Entity) → IsScopeOf m fs pairs → e.«module» ≡ prelude_name
    → All IsOther m.header.imports → All (IsByPrelude space e) pairs → IsImplicit m fs space e
implicit_alone m fs pairs space e scope defined others by = record {
  defined = defined;
  others = others;
  alone = λ i f there within from brings.
      let p : Pair = record { space = space; qualifier = Some (known_as i); text = e.name; entity = e } in
      let among : Contains pairs p = (scope p).1 (imported (written there) within from brings (inr refl)) in
      ⊎_elim (λ none. no_qualifier (known_as i) none) (λ known. (All-contains IsOther m.header.imports i others there).known (some_is (known_as i) prelude_name known))
      (All-contains (IsByPrelude space e) pairs p by among refl refl refl);
}

pub with_qualifier : (m : Module) (fs : List Interface) (pairs : List Pair) (space : Namespace) (q : List ℕ) (e : Entity) (c : Candidate) → IsScopeOf m fs pairs → IsAlone pairs space q e
    → c.entity ≡ e → c.qualifier ≡ Some q → ((l : ℕ) → c.line ≡ Some l → IsOfImports m q × HasLine m.header.imports q l) → (c.implicit ≡ true → IsImplicit m fs space e) → IsCandidate m fs space e c
with_qualifier m fs pairs space q e c scope found entity qualifier line implicit = record {
  entity_is = entity;
  means = λ n r has written text. means m fs pairs space q e n scope found (written ∙ sym has ∙ qualifier) text;
  line = λ r l has at. subst (λ x. IsImportLine m fs space e x l) (some_is q r (sym qualifier ∙ has)) (with_line m fs pairs space q e l scope found (line l at).0 (line l at).1);
  implicit = implicit;
}

none_is : {X : Type 0} (q : List ℕ) (o : Option (List ℕ)) → o ≡ None → o ≡ Some q → X
none_is q o none some = let clash : None ≡ Some q = sym none ∙ some in cc

pub without_qualifier : (m : Module) (fs : List Interface) (space : Namespace) (e : Entity) (c : Candidate) → c.entity ≡ e → c.qualifier ≡ None
    → (c.implicit ≡ true → IsImplicit m fs space e) → IsCandidate m fs space e c
without_qualifier m fs space e c entity none implicit = record {
  entity_is = entity;
  means = λ n r has written text. none_is r c.qualifier none has;
  line = λ r l has at. none_is r c.qualifier none has;
  implicit = implicit;
}

pub only_line : (is : List Import) (q : List ℕ) (l : ℕ) → (i : Import) × Contains is i × (known_as i ≡ q) → All (IsInLine q l) is → HasLine is q l
only_line is q l found each = record { import = found.0; written = found.1; known = found.2; each = each }
