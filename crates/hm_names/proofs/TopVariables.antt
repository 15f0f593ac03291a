-- The names of a core's binding list are distinct, and they are the module's own.
use Rattle.std.proofs.Common.{◌≡◌, ℕ, suc, ◌<◌, ◌≤◌, Bool, true, false, cond, ◌&&◌, ◌||◌, List, [], ◌∷◌, ◌++◌, length, map, Option, None, Some, ◌⊎◌, inl, inr, refl, sym, ap, ap₂, ◌∙◌, subst, Contains, arith}
use Rattle.std.proofs.lemmas.Bool.{cases_Bool}
use Rattle.std.proofs.lemmas.Bool.Decides.{Decides-and}
use Rattle.std.proofs.lemmas.Slice.Eq.{bytes_eq-Decides}
use Rattle.hm_types.specs.declared.Entity.{Entity}
use Rattle.hm_types.specs.Interfaces.{Exports as Interface}
use Rattle.hm_typing.specs.Names.{Identifier as Name, local, global, binding, IsOneOf, IsDistinct}
use Rattle.hm_typing.specs.Syntax as typed
use Rattle.hm_syntax.specs.Names.{Identifier}
use Rattle.hm_syntax.specs.Trees.{Pattern, Patterns, no_patterns, more_patterns, RightSide, Declaration, data_declaration, newtype_declaration, synonym_declaration, signature, clause, pattern_binding}
use Rattle.hm_syntax.specs.Lists.{declarations}
use Rattle.hm_syntax.specs.declared.ast.Module.{Module}
use Rattle.hm_names.specs.declared.faults.Kind.TheVariants.{Duplicate, NonLinear}
use Rattle.hm_names.specs.declared.namespace.Namespace.TheVariants.{Values}
use Rattle.hm_names.specs.ModuleCores.{ModuleCore}
use Rattle.hm_names.specs.Texts.{same_text, is_text_among}
use Rattle.hm_names.specs.Variables.{texts, pattern_variables}
use Rattle.hm_names.specs.Entities.{own, DeclaredBy, a_variable, a_matched_variable, Declares, Exports, a_value}
use Rattle.hm_names.specs.Scope.{InScope, declared, imported}
use Rattle.hm_names.specs.Exports.{IsExported, all, listed, Gives, whole}
use Rattle.hm_names.specs.Exports as export
use Rattle.hm_names.specs.Syntax.{is_continued, bindings_of}
use Rattle.hm_names.specs.Resolved.{resolved}
use Rattle.hm_names.specs.Cores.{IsCore, syntax_of, known}
use Rattle.hm_names.specs.Laws.{IsOwn, IsImported}
use Rattle.hm_names.specs.Walk.{InDeclarations}
use Rattle.hm_names.specs.Faults.Lists.{has_patterns, OpenBinding, opened, goes_on, binding_names, firsts, Repeats, second_binding}
use Rattle.hm_names.specs.Faults.Names.{NameFault, non_linear}
use Rattle.hm_names.specs.Faults.Phases.{IsWellFormed, Declaring, Naming, fault}
use Rattle.hm_names.proofs.KeptDeclarations.{same_bindings}
use Rattle.hm_names.proofs.Members.{none_in, cases, first, rest}
use Rattle.hm_names.proofs.Synonyms.{exported_of}
use Rattle.hm_names.proofs.TopNames.{heads, names_of_list, map-++}

-- the texts of the variables among the names
abbrev variables_among : List Name → List (List ℕ)
variables_among [] = []
variables_among (local x ∷ ns) = variables_among ns
variables_among (global e ∷ ns) = e.name ∷ variables_among ns
variables_among (binding h k ∷ ns) = variables_among ns

abbrev NoRepeat : List (List ℕ) → Type 0
NoRepeat [] = Unit {0}
NoRepeat (x ∷ xs) = ¬ (IsOneOf x xs) × NoRepeat xs

-- the numbers of pattern bindings fall, and begin below n; no name is local
abbrev Fall : ℕ → List Name → Type 0
Fall n [] = Unit {0}
Fall n (local x ∷ ns) = ⊥
Fall n (global e ∷ ns) = Fall n ns
Fall n (binding h k ∷ ns) = (k < n) × Fall k ns

variable_there : (ns : List Name) (e : Entity) → IsOneOf (global e) ns → IsOneOf e.name (variables_among ns)
variable_there [] e h = h
variable_there (local x ∷ ns) e h = elim h [ inl s ↦ absurd (cc) | inr o ↦ variable_there ns e o ]
variable_there (global d ∷ ns) e h = elim h [ inl s ↦ let z : e ≡ d = cc in inl (ap (λ w. w.name) z) | inr o ↦ inr (variable_there ns e o) ]
variable_there (binding b k ∷ ns) e h = elim h [ inl s ↦ absurd (cc) | inr o ↦ variable_there ns e o ]

number_there : (n : ℕ) (ns : List Name) (h : List ℕ) (k : ℕ) → Fall n ns → IsOneOf (binding h k) ns → k < n
number_there n [] h k f o = absurd o
number_there n (local x ∷ ns) h k f o = absurd f
number_there n (global d ∷ ns) h k f o = elim o [ inl s ↦ absurd (cc) | inr p ↦ number_there n ns h k f p ]
number_there n (binding b j ∷ ns) h k f o = elim o [ inl s ↦ let z : k ≡ j = cc in omega (arith, z, f.0) | inr p ↦ let q = number_there j ns h k f.1 p in omega (arith, q, f.0) ]

distinct_names : (n : ℕ) (ns : List Name) → Fall n ns → NoRepeat (variables_among ns) → IsDistinct ns
distinct_names n [] f r = tt
distinct_names n (local x ∷ ns) f r = absurd f
distinct_names n (global e ∷ ns) f r = (λ o. r.0 (variable_there ns e o), distinct_names n ns f r.1)
distinct_names n (binding h k ∷ ns) f r = (λ o. let q = number_there k ns h k f.1 o in absurd (omega (arith, q)), distinct_names k ns f.1 r)

-- The numbers of a list fall

fall_more : (a b : ℕ) (ns : List Name) → a ≤ b → Fall a ns → Fall b ns
fall_more a b [] l f = tt
fall_more a b (local x ∷ ns) l f = f
fall_more a b (global e ∷ ns) l f = fall_more a b ns l f
fall_more a b (binding h k ∷ ns) l f = (omega (arith, l, f.0), f.1)

fall_either : (n : ℕ) (i : Bool) (e : Entity) (ns : List Name) → Fall n ns → Fall n (cond i ns (global e ∷ ns))
fall_either n true e ns f = f
fall_either n false e ns f = f

fall_block : (m : Module) (n k : ℕ) (h : List ℕ) (vs : List Identifier) (ns : List Name) → k < n → Fall k ns → Fall n ((map (λ v. global (own m v.text)) vs ++ (binding h k ∷ [])) ++ ns)
fall_block m n k h [] ns l f = (l, f)
fall_block m n k h (v ∷ vs) ns l f = fall_block m n k h vs ns l f

fall_heads : (m : Module) (ds : List Declaration) → Fall (length ds) (heads m ds)
fall_heads m [] = tt
fall_heads m (data_declaration n ps cs ∷ ds) = fall_more (length ds) (suc (length ds)) (heads m ds) (omega arith) (fall_heads m ds)
fall_heads m (newtype_declaration n ps c ∷ ds) = fall_more (length ds) (suc (length ds)) (heads m ds) (omega arith) (fall_heads m ds)
fall_heads m (synonym_declaration n ps t ∷ ds) = fall_more (length ds) (suc (length ds)) (heads m ds) (omega arith) (fall_heads m ds)
fall_heads m (signature ns t ∷ ds) = fall_more (length ds) (suc (length ds)) (heads m ds) (omega arith) (fall_heads m ds)
fall_heads m (clause n ps q ∷ ds) =
    fall_either (suc (length ds)) (is_continued n.text ps (declarations ds)) (own m n.text) (heads m ds) (fall_more (length ds) (suc (length ds)) (heads m ds) (omega arith) (fall_heads m ds))
fall_heads m (pattern_binding l c p q ∷ ds) = fall_block m (suc (length ds)) (length ds) m.header.name.text (pattern_variables p) (heads m ds) (omega arith) (fall_heads m ds)

-- Their variables are those of the bindings

-- whether the next declaration goes on the open binding
abbrev goes_on_in : OpenBinding → List Declaration → Bool
goes_on_in b [] = false
goes_on_in b (data_declaration n ps cs ∷ ds) = false
goes_on_in b (newtype_declaration n ps c ∷ ds) = false
goes_on_in b (synonym_declaration n ps t ∷ ds) = false
goes_on_in b (signature ns t ∷ ds) = false
goes_on_in b (clause n ps q ∷ ds) = goes_on b n ps
goes_on_in b (pattern_binding l c p q ∷ ds) = false

abbrev open_text : OpenBinding → List ℕ
open_text None = []
open_text (Some b) = b.0

none_goes_on : (ds : List Declaration) → goes_on_in None ds ≡ false
none_goes_on [] = refl
none_goes_on (data_declaration n ps cs ∷ ds) = refl
none_goes_on (newtype_declaration n ps c ∷ ds) = refl
none_goes_on (synonym_declaration n ps t ∷ ds) = refl
none_goes_on (signature ns t ∷ ds) = refl
none_goes_on (clause n ps q ∷ ds) = refl
none_goes_on (pattern_binding l c p q ∷ ds) = refl

and_false : (b : Bool) → (b && false) ≡ false
and_false true = refl
and_false false = refl

-- what goes on a first clause goes on the binding that it opens
opened_goes_on : (n : Identifier) (ps : Patterns) (ds : List Declaration) → is_continued n.text ps (declarations ds) ≡ goes_on_in (opened n ps) ds
opened_goes_on n ps [] = refl
opened_goes_on n ps (data_declaration k qs cs ∷ ds) = refl
opened_goes_on n ps (newtype_declaration k qs c ∷ ds) = refl
opened_goes_on n ps (synonym_declaration k qs t ∷ ds) = refl
opened_goes_on n ps (signature ns t ∷ ds) = refl
opened_goes_on n no_patterns (clause k qs q ∷ ds) = and_false (same_text n.text k.text)
opened_goes_on n (more_patterns p ps) (clause k qs q ∷ ds) = refl
opened_goes_on n ps (pattern_binding l c p q ∷ ds) = refl

-- and what goes on a clause that goes on a binding goes on that binding
still_goes_on : (x : List ℕ) (j : ℕ) (n : Identifier) (ps : Patterns) (ds : List Declaration) → x ≡ n.text → has_patterns ps ≡ true → is_continued n.text ps (declarations ds) ≡ goes_on_in (Some (x, j)) ds
still_goes_on x j n ps [] e h = refl
still_goes_on x j n ps (data_declaration k qs cs ∷ ds) e h = refl
still_goes_on x j n ps (newtype_declaration k qs c ∷ ds) e h = refl
still_goes_on x j n ps (synonym_declaration k qs t ∷ ds) e h = refl
still_goes_on x j n ps (signature ns t ∷ ds) e h = refl
still_goes_on x j n ps (clause k qs q ∷ ds) e h = ap₂ (λ a b. same_text a k.text && (b && has_patterns qs)) (sym e) h
still_goes_on x j n ps (pattern_binding l c p q ∷ ds) e h = refl

settled : (i : Bool) (x y : List ℕ) (bs : List (List ℕ)) → (i ≡ true → x ≡ y) → cond i (cond i (x ∷ bs) bs) (y ∷ cond i (x ∷ bs) bs) ≡ y ∷ bs
settled true x y bs h = ap (λ z. z ∷ bs) (h refl)
settled false x y bs h = refl

either_variables : (i : Bool) (e : Entity) (ns : List Name) → variables_among (cond i ns (global e ∷ ns)) ≡ cond i (variables_among ns) (e.name ∷ variables_among ns)
either_variables true e ns = refl
either_variables false e ns = refl

block_variables : (m : Module) (h : List ℕ) (k : ℕ) (vs : List Identifier) (ns : List Name) → variables_among ((map (λ v. global (own m v.text)) vs ++ (binding h k ∷ [])) ++ ns) ≡ texts vs ++ variables_among ns
block_variables m h k [] ns = refl
block_variables m h k (v ∷ vs) ns = ap (λ z. v.text ∷ z) (block_variables m h k vs ns)

-- no pattern binding has a variable twice
abbrev Linear : List Declaration → Type 0
Linear ds = (l c : ℕ) (p : Pattern) (q : RightSide) → Contains ds (pattern_binding l c p q) → firsts [] (pattern_variables p) ≡ pattern_variables p

abbrev Names : OpenBinding → List Declaration → List (List ℕ)
Names b ds = texts (binding_names b (declarations ds))

opened_text : (n : Identifier) (ps : Patterns) (ds : List Declaration) → goes_on_in (opened n ps) ds ≡ true → open_text (opened n ps) ≡ n.text
opened_text n no_patterns ds h = absurd (let z : false ≡ true = sym (none_goes_on ds) ∙ h in cc)
opened_text n (more_patterns p ps) ds h = refl

on_binding : (b : OpenBinding) (n : Identifier) (ps : Patterns) (ds : List Declaration) → goes_on b n ps ≡ true → (open_text b ≡ n.text) × (is_continued n.text ps (declarations ds) ≡ goes_on_in b ds)
on_binding None n ps ds h = absurd (let z : false ≡ true = h in cc)
on_binding (Some (x, j)) n ps ds h =
    let both = (Decides-and _ _ (bytes_eq-Decides x n.text) (λ (e : has_patterns ps ≡ true). e, λ (e : has_patterns ps ≡ true). e)).0 h in
    (both.0, still_goes_on x j n ps ds both.0 both.1)

variables_of_heads : (m : Module) (b : OpenBinding) (ds : List Declaration) → Linear ds → variables_among (heads m ds) ≡ cond (goes_on_in b ds) (open_text b ∷ Names b ds) (Names b ds)
variables_of_heads m b [] l = refl
variables_of_heads m b (data_declaration n ps cs ∷ ds) l = variables_of_heads m None ds (λ a c p q h. l a c p q (rest _ ds _ h)) ∙ ap (λ i. cond i ([] ∷ Names None ds) (Names None ds)) (none_goes_on ds)
variables_of_heads m b (newtype_declaration n ps k ∷ ds) l = variables_of_heads m None ds (λ a c p q h. l a c p q (rest _ ds _ h)) ∙ ap (λ i. cond i ([] ∷ Names None ds) (Names None ds)) (none_goes_on ds)
variables_of_heads m b (synonym_declaration n ps t ∷ ds) l = variables_of_heads m None ds (λ a c p q h. l a c p q (rest _ ds _ h)) ∙ ap (λ i. cond i ([] ∷ Names None ds) (Names None ds)) (none_goes_on ds)
variables_of_heads m b (signature ns t ∷ ds) l = variables_of_heads m None ds (λ a c p q h. l a c p q (rest _ ds _ h)) ∙ ap (λ i. cond i ([] ∷ Names None ds) (Names None ds)) (none_goes_on ds)
variables_of_heads m b (clause n ps g ∷ ds) l =
    either_variables (is_continued n.text ps (declarations ds)) (own m n.text) (heads m ds)
    ∙ go (cases_Bool (goes_on b n ps)) (variables_of_heads m b ds (λ a c p q h. l a c p q (rest _ ds _ h))) (variables_of_heads m (opened n ps) ds (λ a c p q h. l a c p q (rest _ ds _ h)))
  where
    i : Bool
    i = is_continued n.text ps (declarations ds)

    vs : List (List ℕ)
    vs = variables_among (heads m ds)

    old : List (List ℕ)
    old = Names b ds

    new : List (List ℕ)
    new = Names (opened n ps) ds

    go : (goes_on b n ps ≡ true) ⊎ (goes_on b n ps ≡ false) →
        variables_among (heads m ds) ≡ cond (goes_on_in b ds) (open_text b ∷ Names b ds) (Names b ds) → variables_among (heads m ds) ≡ cond (goes_on_in (opened n ps) ds) (open_text (opened n ps) ∷ Names (opened n ps) ds) (Names (opened n ps) ds) →
        cond (is_continued n.text ps (declarations ds)) (variables_among (heads m ds)) (n.text ∷ variables_among (heads m ds)) ≡ cond (goes_on b n ps) (open_text b ∷ Names b (clause n ps g ∷ ds)) (Names b (clause n ps g ∷ ds))
    go (inl t) on off =
        let k = on_binding b n ps ds t in
        ap₂ (λ i z. cond i z (n.text ∷ z)) k.1 on
        ∙ (settled (goes_on_in b ds) (open_text b) n.text (Names b ds) (λ e. k.0)
        ∙ (ap (λ z. z ∷ Names b ds) (sym k.0)
        ∙ sym (ap (λ a. cond a (open_text b ∷ texts (cond a (binding_names b (declarations ds)) (n ∷ binding_names (opened n ps) (declarations ds)))) (texts (cond a (binding_names b (declarations ds)) (n ∷ binding_names (opened n ps) (declarations ds))))) t)))
    go (inr f) on off =
        ap₂ (λ i z. cond i z (n.text ∷ z)) (opened_goes_on n ps ds) off
        ∙ (settled (goes_on_in (opened n ps) ds) (open_text (opened n ps)) n.text (Names (opened n ps) ds) (opened_text n ps ds)
        ∙ sym (ap (λ a. cond a (open_text b ∷ texts (cond a (binding_names b (declarations ds)) (n ∷ binding_names (opened n ps) (declarations ds)))) (texts (cond a (binding_names b (declarations ds)) (n ∷ binding_names (opened n ps) (declarations ds))))) f))
variables_of_heads m b (pattern_binding k c p g ∷ ds) l =
    block_variables m m.header.name.text (length ds) (pattern_variables p) (heads m ds)
    ∙ (ap₂ (λ v w. texts v ++ w) (sym (l k c p g (first (pattern_binding k c p g) ds))) (variables_of_heads m None ds (λ a c p q h. l a c p q (rest _ ds _ h)) ∙ ap (λ i. cond i ([] ∷ Names None ds) (Names None ds)) (none_goes_on ds))
    ∙ sym (map-++ (λ n. n.text) (firsts [] (pattern_variables p)) (binding_names None (declarations ds))))

-- No fault of duplicates, so no repeat

text_there : (ns : List Identifier) (x : List ℕ) → IsOneOf x (texts ns) → (n : Identifier) × (Contains ns n × (n.text ≡ x))
text_there [] x h = absurd h
text_there (k ∷ ks) x h = elim h [ inl s ↦ (k, (first k ks, sym s)) | inr o ↦ let r = text_there ks x o in (r.0, (rest k ks r.0 r.1.0, r.1.1)) ]

no_repeat : (ns : List Identifier) → ((n : Identifier) → ¬ (Repeats ns n)) → NoRepeat (texts ns)
no_repeat [] h = tt
no_repeat (k ∷ ks) h = (λ o. let r = text_there ks k.text o in h r.0 (inl (r.1.0, r.1.1)), no_repeat ks (λ n r. h n (inr r)))

among : (x : List ℕ) (seen : List (List ℕ)) → is_text_among x seen ≡ true → IsOneOf x seen
among x [] h = absurd (let z : false ≡ true = h in cc)
among x (y ∷ ys) h = go (cases_Bool (same_text x y)) (λ k. among x ys k)
  where
    go : (same_text x y ≡ true) ⊎ (same_text x y ≡ false) → (is_text_among x ys ≡ true → IsOneOf x ys) → IsOneOf x (y ∷ ys)
    go (inl t) f = inl ((bytes_eq-Decides x y).0 t)
    go (inr e) f = inr (f (sym (ap (λ b. b || is_text_among x ys) e) ∙ h))

-- what has no repeat keeps all its names
all_first : (seen : List (List ℕ)) (ns : List Identifier) → ((x : List ℕ) → IsOneOf x seen → ¬ (IsOneOf x (texts ns))) → NoRepeat (texts ns) → firsts seen ns ≡ ns
all_first seen [] a r = refl
all_first seen (n ∷ ns) a r = go (cases_Bool (is_text_among n.text seen)) (all_first (n.text ∷ seen) ns apart r.1)
  where
    apart : (x : List ℕ) → IsOneOf x (n.text ∷ seen) → ¬ (IsOneOf x (texts ns))
    apart x o p = elim o [ inl s ↦ r.0 (subst (λ z. IsOneOf z (texts ns)) s p) | inr q ↦ a x q (inr p) ]

    go : (is_text_among n.text seen ≡ true) ⊎ (is_text_among n.text seen ≡ false) → firsts (n.text ∷ seen) ns ≡ ns → firsts seen (n ∷ ns) ≡ n ∷ ns
    go (inl t) ih = absurd (a n.text (among n.text seen t) (inl refl))
    go (inr f) ih = ap (λ b. cond b (firsts seen ns) (n ∷ firsts (n.text ∷ seen) ns)) f ∙ ap (λ z. n ∷ z) ih

append_nil : (ns : List Identifier) → ns ++ [] ≡ ns
append_nil [] = refl
append_nil (n ∷ ns) = ap (λ z. n ∷ z) (append_nil ns)

-- a pattern binding with a variable twice is a fault of names
not_linear : (m : Module) (fs : List Interface) (ds : List Declaration) (l c : ℕ) (p : Pattern) (q : RightSide) (n : Identifier) → Contains ds (pattern_binding l c p q) → Repeats (pattern_variables p) n →
    InDeclarations (λ xs t. NameFault m fs xs t NonLinear n) [] (declarations ds)
not_linear m fs [] l c p q n h r = absurd (none_in _ h)
not_linear m fs (d ∷ ds) l c p q n h r =
    elim (cases d ds (pattern_binding l c p q) h) [
      | inl e ↦ subst (λ z. InDeclarations (λ xs t. NameFault m fs xs t NonLinear n) [] (declarations (z ∷ ds))) e (inl (inl (inl (non_linear (subst (λ z. Repeats z n) (sym (append_nil (pattern_variables p))) r)))))
      | inr o ↦ inr (not_linear m fs ds l c p q n o r)
    ]

linear : (m : Module) (fs : List Interface) → IsWellFormed m fs → Linear m.decls
linear m fs w l c p q h =
    all_first [] (pattern_variables p) (λ x o. absurd o) (no_repeat (pattern_variables p) (λ n r. w Naming (fault NonLinear n) (record { kind = NonLinear; name = n; stands = inr (not_linear m fs m.decls l c p q n h r); is = refl })))

distinct_heads : (m : Module) (fs : List Interface) → IsWellFormed m fs → IsDistinct (heads m m.decls)
distinct_heads m fs w =
    let same : variables_among (heads m m.decls) ≡ texts (binding_names None (declarations m.decls)) =
    variables_of_heads m None m.decls (linear m fs w) ∙ ap (λ i. cond i ([] ∷ Names None m.decls) (Names None m.decls)) (none_goes_on m.decls) in
    distinct_names (length m.decls) (heads m m.decls) (fall_heads m m.decls)
    (subst NoRepeat (sym same) (no_repeat (binding_names None (declarations m.decls)) (λ n r. w Declaring (fault Duplicate n) (record { kind = Duplicate; name = n; stands = inl (second_binding r); is = refl }))))

-- The names of a core

pub names_of_core : (m : Module) (fs : List Interface) (c : ModuleCore) → IsCore m fs c → typed.names (syntax_of c) ≡ heads m m.decls
names_of_core m fs c a =
    let h = names_of_list m a.resolver (known c) (declarations (resolved m a.resolver)) m.decls a.name in
    ap (λ ds. typed.names (bindings_of (known c) (declarations ds) (declarations ds))) a.trees ∙ (ap typed.names (same_bindings c.exported_types (known c) (resolved m a.resolver)) ∙ h)

pub distinct_names_of_core : (m : Module) (fs : List Interface) (c : ModuleCore) → IsCore m fs c → IsDistinct (typed.names (syntax_of c))
distinct_names_of_core m fs c a = subst IsDistinct (sym (names_of_core m fs c a)) (distinct_heads m fs a.well_formed)

-- each is an entity of the module, or a pattern binding of it
own_either : (m : Module) (i : Bool) (n : Identifier) (ns : List Name) (x : Name) → ((y : Name) → IsOneOf y ns → IsOwn m y) → IsOneOf x (cond i ns (global (own m n.text) ∷ ns)) → IsOwn m x
own_either m true n ns x f h = f x h
own_either m false n ns x f h = elim h [ inl s ↦ inl (n.text, s) | inr o ↦ f x o ]

own_block : (m : Module) (k : ℕ) (vs : List Identifier) (ns : List Name) (x : Name) → ((y : Name) → IsOneOf y ns → IsOwn m y) → IsOneOf x ((map (λ v. global (own m v.text)) vs ++ (binding m.header.name.text k ∷ [])) ++ ns) → IsOwn m x
own_block m k [] ns x f h = elim h [ inl s ↦ inr (k, s) | inr o ↦ f x o ]
own_block m k (v ∷ vs) ns x f h = elim h [ inl s ↦ inl (v.text, s) | inr o ↦ own_block m k vs ns x f o ]

own_heads : (m : Module) (ds : List Declaration) (x : Name) → IsOneOf x (heads m ds) → IsOwn m x
own_heads m [] x h = absurd h
own_heads m (data_declaration n ps cs ∷ ds) x h = own_heads m ds x h
own_heads m (newtype_declaration n ps c ∷ ds) x h = own_heads m ds x h
own_heads m (synonym_declaration n ps t ∷ ds) x h = own_heads m ds x h
own_heads m (signature ns t ∷ ds) x h = own_heads m ds x h
own_heads m (clause n ps q ∷ ds) x h = own_either m (is_continued n.text ps (declarations ds)) n (heads m ds) x (λ y o. own_heads m ds y o) h
own_heads m (pattern_binding l c p q ∷ ds) x h = own_block m (length ds) (pattern_variables p) (heads m ds) x (λ y o. own_heads m ds y o) h

pub own_names_of_core : (m : Module) (fs : List Interface) (c : ModuleCore) → IsCore m fs c → (x : Name) → IsOneOf x (typed.names (syntax_of c)) → IsOwn m x
own_names_of_core m fs c a x h = own_heads m m.decls x (subst (λ z. IsOneOf x z) (names_of_core m fs c a) h)

-- and each variable that the module declares is among them
there_either : (i : Bool) (y x : Name) (ns : List Name) → (i ≡ false → x ≡ y) → (i ≡ true → IsOneOf x ns) → IsOneOf x (cond i ns (y ∷ ns))
there_either true y x ns f g = g refl
there_either false y x ns f g = inl (f refl)

later_either : (i : Bool) (y x : Name) (ns : List Name) → IsOneOf x ns → IsOneOf x (cond i ns (y ∷ ns))
later_either true y x ns h = h
later_either false y x ns h = inr h

later_block : (xs ns : List Name) (x : Name) → IsOneOf x ns → IsOneOf x (xs ++ ns)
later_block [] ns x h = h
later_block (y ∷ ys) ns x h = inr (later_block ys ns x h)

in_block : (m : Module) (vs : List Identifier) (xs ns : List Name) (v : Identifier) → Contains vs v → IsOneOf (global (own m v.text)) ((map (λ w. global (own m w.text)) vs ++ xs) ++ ns)
in_block m [] xs ns v h = absurd (none_in v h)
in_block m (w ∷ vs) xs ns v h = elim (cases w vs v h) [ inl e ↦ inl (ap (λ z. global (own m z.text)) e) | inr o ↦ inr (in_block m vs xs ns v o) ]

-- the clause that a clause is continued by is of the same variable
pub continued_by : (m : Module) (x : List ℕ) (ps : Patterns) (ds : List Declaration) → ((n : Identifier) (qs : Patterns) (q : RightSide) → Contains ds (clause n qs q) → IsOneOf (global (own m n.text)) (heads m ds)) →
    is_continued x ps (declarations ds) ≡ true → IsOneOf (global (own m x)) (heads m ds)
continued_by m x ps [] f h = absurd (let z : false ≡ true = h in cc)
continued_by m x ps (data_declaration k qs cs ∷ ds) f h = absurd (let z : false ≡ true = h in cc)
continued_by m x ps (newtype_declaration k qs c ∷ ds) f h = absurd (let z : false ≡ true = h in cc)
continued_by m x ps (synonym_declaration k qs t ∷ ds) f h = absurd (let z : false ≡ true = h in cc)
continued_by m x ps (signature ns t ∷ ds) f h = absurd (let z : false ≡ true = h in cc)
continued_by m x ps (clause k qs q ∷ ds) f h = go (cases_Bool (same_text x k.text))
  where
    go : (same_text x k.text ≡ true) ⊎ (same_text x k.text ≡ false) → IsOneOf (global (own m x)) (heads m (clause k qs q ∷ ds))
    go (inl t) = subst (λ z. IsOneOf (global (own m z)) (heads m (clause k qs q ∷ ds))) (sym ((bytes_eq-Decides x k.text).0 t)) (f k qs q (first (clause k qs q) ds))
    go (inr e) = absurd (let z : false ≡ true = sym (ap (λ b. b && (has_patterns ps && has_patterns qs)) e) ∙ h in cc)
continued_by m x ps (pattern_binding l c p q ∷ ds) f h = absurd (let z : false ≡ true = h in cc)

pub clause_there : (m : Module) (ds : List Declaration) (n : Identifier) (qs : Patterns) (q : RightSide) → Contains ds (clause n qs q) → IsOneOf (global (own m n.text)) (heads m ds)
clause_there m [] n qs q h = absurd (none_in _ h)
clause_there m (data_declaration k ps cs ∷ ds) n qs q h = elim (cases _ ds (clause n qs q) h) [ inl e ↦ absurd (cc) | inr o ↦ clause_there m ds n qs q o ]
clause_there m (newtype_declaration k ps c ∷ ds) n qs q h = elim (cases _ ds (clause n qs q) h) [ inl e ↦ absurd (cc) | inr o ↦ clause_there m ds n qs q o ]
clause_there m (synonym_declaration k ps t ∷ ds) n qs q h = elim (cases _ ds (clause n qs q) h) [ inl e ↦ absurd (cc) | inr o ↦ clause_there m ds n qs q o ]
clause_there m (signature ns t ∷ ds) n qs q h = elim (cases _ ds (clause n qs q) h) [ inl e ↦ absurd (cc) | inr o ↦ clause_there m ds n qs q o ]
clause_there m (clause k ps g ∷ ds) n qs q h =
    elim (cases _ ds (clause n qs q) h) [
      | inl e ↦ let same : n ≡ k = cc in
          there_either (is_continued k.text ps (declarations ds)) (global (own m k.text)) (global (own m n.text)) (heads m ds) (λ i. ap (λ z. global (own m z.text)) same)
          (λ t. subst (λ z. IsOneOf (global (own m z.text)) (heads m ds)) (sym same) (continued_by m k.text ps ds (λ o rs u w. clause_there m ds o rs u w) t))
      | inr o ↦ later_either (is_continued k.text ps (declarations ds)) (global (own m k.text)) (global (own m n.text)) (heads m ds) (clause_there m ds n qs q o)
    ]
clause_there m (pattern_binding l c p g ∷ ds) n qs q h = elim (cases _ ds (clause n qs q) h) [ inl e ↦ absurd (cc) | inr o ↦ later_block _ (heads m ds) (global (own m n.text)) (clause_there m ds n qs q o) ]

pattern_there : (m : Module) (ds : List Declaration) (l c : ℕ) (p : Pattern) (q : RightSide) (n : Identifier) → Contains ds (pattern_binding l c p q) → Contains (pattern_variables p) n → IsOneOf (global (own m n.text)) (heads m ds)
pattern_there m [] l c p q n h v = absurd (none_in _ h)
pattern_there m (data_declaration k ps cs ∷ ds) l c p q n h v = elim (cases _ ds (pattern_binding l c p q) h) [ inl e ↦ absurd (cc) | inr o ↦ pattern_there m ds l c p q n o v ]
pattern_there m (newtype_declaration k ps b ∷ ds) l c p q n h v = elim (cases _ ds (pattern_binding l c p q) h) [ inl e ↦ absurd (cc) | inr o ↦ pattern_there m ds l c p q n o v ]
pattern_there m (synonym_declaration k ps t ∷ ds) l c p q n h v = elim (cases _ ds (pattern_binding l c p q) h) [ inl e ↦ absurd (cc) | inr o ↦ pattern_there m ds l c p q n o v ]
pattern_there m (signature ns t ∷ ds) l c p q n h v = elim (cases _ ds (pattern_binding l c p q) h) [ inl e ↦ absurd (cc) | inr o ↦ pattern_there m ds l c p q n o v ]
pattern_there m (clause k ps g ∷ ds) l c p q n h v =
    elim (cases _ ds (pattern_binding l c p q) h) [ inl e ↦ absurd (cc) | inr o ↦ later_either (is_continued k.text ps (declarations ds)) (global (own m k.text)) (global (own m n.text)) (heads m ds) (pattern_there m ds l c p q n o v) ]
pattern_there m (pattern_binding a b u g ∷ ds) l c p q n h v =
    elim (cases _ ds (pattern_binding l c p q) h) [
      | inl e ↦ let same : p ≡ u = cc in in_block m (pattern_variables u) (binding m.header.name.text (length ds) ∷ []) (heads m ds) n (subst (λ z. Contains (pattern_variables z) n) same v)
      | inr o ↦ later_block _ (heads m ds) (global (own m n.text)) (pattern_there m ds l c p q n o v)
    ]

declared_heads : (m : Module) (d : Declaration) (x : List ℕ) → Contains m.decls d → DeclaredBy x d Values → IsOneOf (global (own m x)) (heads m m.decls)
declared_heads m (clause n ps q) x h (a_variable e) = subst (λ z. IsOneOf (global (own m z)) (heads m m.decls)) e (clause_there m m.decls n ps q h)
declared_heads m (pattern_binding l c p q) x h (a_matched_variable {n} v e) = subst (λ z. IsOneOf (global (own m z)) (heads m m.decls)) e (pattern_there m m.decls l c p q n h v)
declared_heads m (data_declaration n ps cs) x h d = elim d [ ]
declared_heads m (newtype_declaration n ps c) x h d = elim d [ ]
declared_heads m (synonym_declaration n ps t) x h d = elim d [ ]
declared_heads m (signature ns t) x h d = elim d [ ]

pub declared_names_of_core : (m : Module) (fs : List Interface) (c : ModuleCore) → IsCore m fs c → (x : List ℕ) → Declares m x Values → IsOneOf (global (own m x)) (typed.names (syntax_of c))
declared_names_of_core m fs c a x d = subst (λ z. IsOneOf (global (own m x)) z) (sym (names_of_core m fs c a)) (declared_heads m d.declaration x d.stands d.declares)

-- What is exported

value_of : (fs : List Interface) (f : Interface) (x : List ℕ) (e : Entity) → Contains fs f → Exports f x e Values → IsImported fs e
value_of fs f x e c (a_value {r} h n q) = record { interface = f; stands = c; entry = r; has = h; is = q }

-- a variable in scope is the module's own, or of an interface
pub own_or_imported : (m : Module) (fs : List Interface) (q : Option (List ℕ)) (x : List ℕ) (e : Entity) → InScope m fs Values q x e → (Declares m x Values × (e ≡ own m x)) ⊎ IsImported fs e
own_or_imported m fs q x e (declared d o s) = inl (d, s)
own_or_imported m fs q x e (imported {i} {f} w c n b o) = inr (value_of fs f x e c (exported_of f i Values x e b))

given : (m : Module) (fs : List Interface) (x : List ℕ) (e : Entity) (i : _) → Gives m fs x e i Values → (Declares m x Values × (e ≡ own m x)) ⊎ IsImported fs e
given m fs x e i (export.a_value {n} h s) = elim (own_or_imported m fs n.qualifier n.text e h.in_scope) [ inl d ↦ inl (subst (λ z. Declares m z Values × (e ≡ own m z)) s d) | inr d ↦ inr d ]
given m fs x e i (whole h a b) = own_or_imported m fs None x e a

pub exported_values : (m : Module) (fs : List Interface) (x : List ℕ) (e : Entity) → IsExported m fs Values x e → (Declares m x Values × (e ≡ own m x)) ⊎ IsImported fs e
exported_values m fs x e (all h d s) = inl (d, s)
exported_values m fs x e (listed {es} {i} h c g) = given m fs x e i g
