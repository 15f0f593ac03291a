-- A type among the pairs of a scope is in scope.
use Rattle.std.proofs.Common.{◌≡◌, ◌∙◌, ℕ, ◌+◌, ◌<◌, suc, Bool, true, false, cond, ◌&&◌, ◌||◌, List, [], ◌∷◌, length, get_or, drop, drop-cons, add-one, Option, None, Some, Contains, inl, inr, refl, sym, ap, subst}
use Rattle.hm_types.specs.declared.Entity.{Entity}
use Rattle.hm_types.specs.Interfaces.{Exports as Interface}
use Rattle.hm_syntax.specs.declared.ast.Module.{Module}
use Rattle.hm_names.specs.declared.namespace.Namespace.{Namespace}
use Rattle.hm_names.specs.declared.namespace.Namespace.TheVariants.{Types, Constructors, Values}
use Rattle.hm_names.specs.Bindings.{Pair, same_qualifier, same_space}
use Rattle.hm_names.specs.Scope.{InScope}
use Rattle.hm_names.specs.Texts.{same_text}
use Rattle.hm_names.proofs.Meant.{text_decides}
use Rattle.hm_names.proofs.Members.{cases, first, none_in, rest}
use Rattle.hm_messages_variables.specs.LikeTypes.{has_type, is_type_called}
use Rattle.hm_messages_variables.specs.InScope.{TypesInScope}

both : (a b : Bool) → (a && b) ≡ true → (a ≡ true) × (b ≡ true)
both true b e = (refl, e)
both false b e = absurd (cc)

one_true : (b : Bool) → (b || true) ≡ true
one_true true = refl
one_true false = refl

is_types : (s : Namespace) → same_space Types s ≡ true → s ≡ Types
is_types Types e = refl
is_types Constructors e = absurd (cc)
is_types Values e = absurd (cc)

is_none : (q : Option (List ℕ)) → same_qualifier None q ≡ true → q ≡ None
is_none None e = refl
is_none (Some y) e = absurd (cc)

-- what the pair is
record IsCalled (x : List ℕ) (p : Pair) : Type 0 where
  pub space_is : p.space ≡ Types
  pub qualifier_is : p.qualifier ≡ None
  pub text_is : p.text ≡ x

called : (x : List ℕ) (p : Pair) → is_type_called x p ≡ true → IsCalled x p
called x p e =
    let outer = both (same_space Types p.space) (same_qualifier None p.qualifier && same_text x p.text) e in
    let inner = both (same_qualifier None p.qualifier) (same_text x p.text) outer.1 in
    record { space_is = is_types p.space outer.0; qualifier_is = is_none p.qualifier inner.0; text_is = sym ((text_decides x p.text).0 inner.1) }

at_front : (x : List ℕ) (e : Entity) → is_type_called x (record { space = Types; qualifier = None; text = x; entity = e }) ≡ true
at_front x e = (text_decides x x).1 refl

-- a loop over the pairs
step : (x : List ℕ) (ps : List Pair) (i : ℕ) (p : Pair) → i < length ps → p ≡ get_or ps i p → has_type x (drop i ps) ≡ (is_type_called x p || has_type x (drop (i + 1) ps))
step x ps i p within is = rw (add-one i) (ap (has_type x) (drop-cons ps i p within ∙ ap (λ (y : Pair). y ∷ drop (suc i) ps) (sym is)))

pub passed : (x : List ℕ) (ps : List Pair) (i : ℕ) (p : Pair) → i < length ps → p ≡ get_or ps i p → is_type_called x p ≡ false → has_type x ps ≡ has_type x (drop i ps) → has_type x ps ≡ has_type x (drop (i + 1) ps)
passed x ps i p within is other before = before ∙ step x ps i p within is ∙ ap (λ (b : Bool). b || has_type x (drop (i + 1) ps)) other

pub found_here : (x : List ℕ) (ps : List Pair) (i : ℕ) (p : Pair) (text : List ℕ) → i < length ps → p ≡ get_or ps i p → is_type_called x p ≡ true → text ≡ p.text → has_type x ps ≡ has_type x (drop i ps)
    → Some text ≡ cond (has_type x ps) (Some x) None
found_here x ps i p text within is here of_pair before =
    let yes : has_type x ps ≡ true = before ∙ step x ps i p within is ∙ ap (λ (b : Bool). b || has_type x (drop (i + 1) ps)) here in
    rw yes (ap Some (of_pair ∙ (called x p here).text_is))

-- a pair that is found, and a pair that is there
abbrev Found : List ℕ → List Pair → Type 0
Found x ps = (p : Pair) × Contains ps p × (is_type_called x p ≡ true)

found : (x : List ℕ) (ps : List Pair) → has_type x ps ≡ true → Found x ps
found x [] e = absurd (cc)
found x (p ∷ ps) e = go (found x ps) (is_type_called x p) refl e
  where
    go : (has_type x ps ≡ true → Found x ps) → (b : Bool) → is_type_called x p ≡ b → (b || has_type x ps) ≡ true → Found x (p ∷ ps)
    go later true h f = (p, first p ps, h)
    go later false h f = let r = later f in (r.0, rest p ps r.0 r.1, r.2)

there : (x : List ℕ) (ps : List Pair) (p : Pair) → Contains ps p → is_type_called x p ≡ true → has_type x ps ≡ true
there x [] p c h = absurd (none_in p c)
there x (q ∷ qs) p c h = elim (cases q qs p c) [
  | inl is ↦ let here : is_type_called x q ≡ true = ap (is_type_called x) (sym is) ∙ h in ap (λ (b : Bool). b || has_type x qs) here
  | inr later ↦ ap (λ (b : Bool). is_type_called x q || b) (there x qs p later h) ∙ one_true (is_type_called x q)
]

in_scope : (m : Module) (fs : List Interface) (x : List ℕ) (p : Pair) → IsCalled x p → InScope m fs p.space p.qualifier p.text p.entity → InScope m fs Types None x p.entity
in_scope m fs x p is h =
    subst (λ (t : List ℕ). InScope m fs Types None t p.entity) is.text_is
    (subst (λ (q : Option (List ℕ)). InScope m fs Types q p.text p.entity) is.qualifier_is (subst (λ (s : Namespace). InScope m fs s p.qualifier p.text p.entity) is.space_is h))

pub types_in_scope : TypesInScope
types_in_scope m fs scope is x = (
  (λ e. let r = found x scope e in (r.0.entity, in_scope m fs x r.0 (called x r.0 r.2) ((is r.0).0 r.1))),
  (λ h. there x scope (record { space = Types; qualifier = None; text = x; entity = h.0 }) ((is (record { space = Types; qualifier = None; text = x; entity = h.0 })).1 h.1) (at_front x h.0)),
)
