-- Clashes of exported names.
use Rattle.std.proofs.Common.{◌≡◌, ℕ, ◌+◌, ◌<◌, true, false, List, [], ◌∷◌, ◌++◌, Option, None, Some, ◌⊎◌, inl, inr, ⊎_elim, refl, sym, ap, ap₂, ◌∙◌, subst, Contains, length, take, get_or, arith}
use Rattle.std.specs.Prelude.{◌↔◌}
use Rattle.std.specs.Ordering.{nat_cmp, ordering_then, is_lt}
use Rattle.std.specs.declared.cmp.Ordering.{Ordering}
use Rattle.std.specs.declared.cmp.Ordering.TheVariants.{Less, Equal, Greater}
use Rattle.std.specs.Cmp.Lexicographic.{slice_cmp}
use Rattle.std.proofs.lemmas.Bool.{cases_lt}
use Rattle.std.proofs.lemmas.List.{take_more}
use Rattle.std.proofs.lemmas.List.Elements.{Contains-push, Contains-push_cases, Contains-append_left}
use Rattle.std.proofs.lemmas.Map.Lookups.{exact_unsigned}
use Rattle.hm_types.specs.declared.Entity.{Entity}
use Rattle.hm_types.specs.Interfaces.{Exports as Interface}
use Rattle.hm_syntax.specs.Names.{Identifier}
use Rattle.hm_syntax.specs.declared.ast.Module.{Module}
use Rattle.hm_syntax.specs.declared.ast.Export.{Export}
use Rattle.hm_syntax.specs.declared.ast.Export.TheVariants as export
use Rattle.hm_syntax.specs.declared.ast.SubItems.{SubItems}
use Rattle.hm_syntax.specs.declared.ast.SubItems.TheVariants as subs
use Rattle.hm_names.specs.declared.namespace.Namespace.{Namespace}
use Rattle.hm_names.specs.declared.namespace.Namespace.TheVariants.{Types, Values}
use Rattle.hm_names.specs.declared.faults.Fault.{Fault}
use Rattle.hm_names.specs.declared.faults.Kind.TheVariants.{ExportClash}
use Rattle.hm_names.specs.Bindings.{Pair, Adds, IsSeveral}
use Rattle.hm_scope_exports.specs.ExportItems.{bare_pair, GivesBehind, GivesPair, ClashFault, IsLeastOf, LeastFault}
use Rattle.hm_names.specs.Exports.{Gives, a_value, a_type, each_constructor, a_constructor, whole}
use Rattle.hm_names.specs.Faults.Exports.{IsAtMost, Clashes, item_name, bare_at}
use Rattle.hm_names.specs.Faults.Phases.{fault}
use Rattle.hm_names.proofs.AddedPairs.{adds_like, adds_none, adds_push}
use Rattle.hm_names.proofs.Members.{entity_discrete}

-- The order of texts

pub at_most_itself : (x : List ℕ) → IsAtMost x x
at_most_itself [] = tt
at_most_itself (a ∷ x) = inr (refl, at_most_itself x)

pub at_most_both : (x y : List ℕ) → IsAtMost x y → IsAtMost y x → x ≡ y
at_most_both [] [] h k = refl
at_most_both [] (b ∷ y) h k = absurd k
at_most_both (a ∷ x) [] h k = absurd h
at_most_both (a ∷ x) (b ∷ y) h k = ⊎_elim (λ l. ⊎_elim (λ r. absurd (omega (arith, l, r))) (λ r. absurd (let e = r.0 in omega (arith, l, e))) k)
    (λ l. ⊎_elim (λ r. absurd (let e = l.0 in omega (arith, r, e))) (λ r. ap₂ (λ c z. c ∷ z) l.0 (at_most_both x y l.1 r.1)) k) h

pub at_most_then : (x y z : List ℕ) → IsAtMost x y → IsAtMost y z → IsAtMost x z
at_most_then [] y z h k = tt
at_most_then (a ∷ x) [] z h k = absurd h
at_most_then (a ∷ x) (b ∷ y) [] h k = absurd k
at_most_then (a ∷ x) (b ∷ y) (c ∷ z) h k = ⊎_elim (λ l. ⊎_elim (λ r. inl (omega (arith, l, r))) (λ r. inl (subst (λ d. a < d) r.0 l)) k)
    (λ l. ⊎_elim (λ r. inl (subst (λ d. d < c) (sym l.0) r)) (λ r. inr (l.0 ∙ r.0, at_most_then x y z l.1 r.1)) k) h

-- one of two is at most the other
pub at_most_or : (x y : List ℕ) → IsAtMost x y ⊎ IsAtMost y x
at_most_or [] y = inl tt
at_most_or (a ∷ x) [] = inr tt
at_most_or (a ∷ x) (b ∷ y) = elim (cases_lt a b) [
  | inl l ↦ inl (inl l)
  | inr m ↦ elim (cases_lt b a) [
    | inl r ↦ inr (inl r)
    | inr n ↦ let e : a ≡ b = omega (arith, m, n) in ⊎_elim (λ h. inl (inr (e, h))) (λ h. inr (inr (sym e, h))) (at_most_or x y)
  ]
]

less_of : (a b : ℕ) → nat_cmp a b ≡ Less → a < b
less_of a b e = grind (arith, e)

then_less : (o p : Ordering) → ordering_then o p ≡ Less → (o ≡ Less) ⊎ ((o ≡ Equal) × (p ≡ Less))
then_less Less p e = inl refl
then_less Equal p e = inr (refl, e)
then_less Greater p e = let f : Greater ≡ Less = e in cc

pub at_most_less : (x y : List ℕ) → slice_cmp nat_cmp x y ≡ Less → IsAtMost x y
at_most_less [] y e = tt
at_most_less (a ∷ x) [] e = let f : Greater ≡ Less = e in cc
at_most_less (a ∷ x) (b ∷ y) e = elim (then_less (nat_cmp a b) (slice_cmp nat_cmp x y) e) [ inl l ↦ inl (less_of a b l) | inr s ↦ inr (exact_unsigned a b s.0, at_most_less x y s.1) ]

less_cmp : (a b : ℕ) → a < b → nat_cmp a b ≡ Less
less_cmp a b h = grind (arith, h)

same_cmp : (a b : ℕ) → a ≡ b → nat_cmp a b ≡ Equal
same_cmp a b h = grind (arith, h)

is_less : (o : Ordering) → is_lt o ≡ true → o ≡ Less
is_less Less e = refl
is_less Equal e = absurd (let f : false ≡ true = e in cc)
is_less Greater e = absurd (let f : false ≡ true = e in cc)

pub at_most_test : (x y : List ℕ) → is_lt (slice_cmp nat_cmp x y) ≡ true → IsAtMost x y
at_most_test x y e = at_most_less x y (is_less (slice_cmp nat_cmp x y) e)

pub at_most_not : (x y : List ℕ) → is_lt (slice_cmp nat_cmp x y) ≡ false → IsAtMost y x
at_most_not [] [] e = tt
at_most_not [] (b ∷ y) e = absurd (let f : true ≡ false = e in cc)
at_most_not (a ∷ x) [] e = tt
at_most_not (a ∷ x) (b ∷ y) e = elim (cases_lt a b) [
  | inl l ↦ absurd (let f : true ≡ false = sym (ap (λ o. is_lt (ordering_then o (slice_cmp nat_cmp x y))) (less_cmp a b l)) ∙ e in cc)
  | inr m ↦ elim (cases_lt b a) [
    | inl r ↦ inl r
    | inr n ↦ let same : a ≡ b = omega (arith, m, n) in inr (sym same, at_most_not x y (sym (ap (λ o. is_lt (ordering_then o (slice_cmp nat_cmp x y))) (same_cmp a b same)) ∙ e))
  ]
]

-- The least name

module _ (all seen : List Pair) (p : Pair) where
  pub least_kept : (o : Option (List ℕ)) → ¬ (IsSeveral all p) → IsLeastOf all seen o → IsLeastOf all (seen ++ p ∷ []) o
  least_kept None one least = λ q c s. ⊎_elim (λ before. least q before s) (λ last. one (subst (λ z. IsSeveral all z) (sym last) s)) (Contains-push_cases seen p q c)
  least_kept (Some x) one ((q, (c, h)), least) = ((q, (Contains-append_left seen (p ∷ []) q c, h)), λ q c s. ⊎_elim (λ before. least q before s) (λ last. absurd (one (subst (λ z. IsSeveral all z) (sym last) s))) (Contains-push_cases seen p q c))

  pub least_first : IsSeveral all p → IsLeastOf all seen None → IsLeastOf all (seen ++ p ∷ []) (Some p.text)
  least_first several least = ((p, (Contains-push seen p, (several, refl))), λ q c s. ⊎_elim (λ before. absurd (least q before s)) (λ last. subst (λ z. IsAtMost p.text z.text) last (at_most_itself p.text)) (Contains-push_cases seen p q c))

  pub least_less : (x : List ℕ) → IsSeveral all p → IsAtMost p.text x → IsLeastOf all seen (Some x) → IsLeastOf all (seen ++ p ∷ []) (Some p.text)
  least_less x several less (_, least) = ((p, (Contains-push seen p, (several, refl))), λ q c s. ⊎_elim (λ before. at_most_then p.text x q.text less (least q before s)) (λ last. subst (λ z. IsAtMost p.text z.text) last (at_most_itself p.text)) (Contains-push_cases seen p q c))

  pub least_more : (x : List ℕ) → IsAtMost x p.text → IsLeastOf all seen (Some x) → IsLeastOf all (seen ++ p ∷ []) (Some x)
  least_more x less ((q, (c, h)), least) = ((q, (Contains-append_left seen (p ∷ []) q c, h)), λ q c s. ⊎_elim (λ before. least q before s) (λ last. subst (λ z. IsAtMost x z.text) last less) (Contains-push_cases seen p q c))

pub least_none : (all items : List Pair) → IsLeastOf all (take 0 items) None
least_none all [] q (k, h, e) s = omega (arith, h)
least_none all (x ∷ xs) q (k, h, e) s = omega (arith, h)

pub least_step : (all items : List Pair) (i : ℕ) (p : Pair) (o : Option (List ℕ)) → i < length items → p ≡ get_or items i p → IsLeastOf all (take i items ++ p ∷ []) o → IsLeastOf all (take (i + 1) items) o
least_step all items i p o inside is h = subst (λ l. IsLeastOf all l o) (sym (take_more items i p inside ∙ ap (λ x. take i items ++ x ∷ []) (sym is))) h

-- The fault of the least name

pub no_clash : (old : List Fault) (all given : List Pair) (i : Export) → IsLeastOf all given None → Adds old old (LeastFault all given i)
no_clash old all given i none = adds_none old (LeastFault all given i) (λ g (x, (((p, (c, (s, _))), _), _)). none p c s)

pub one_clash : (old new : List Fault) (all given : List Pair) (i : Export) (x : List ℕ) (f : Fault) → IsLeastOf all given (Some x) → f ≡ fault ExportClash (bare_at (item_name i) x) → new ≡ old ++ f ∷ [] → Adds old new (LeastFault all given i)
one_clash old new all given i x f least is more = adds_like old new (λ g. f ≡ g) (LeastFault all given i) (λ g e. (x, (least, sym is ∙ e)))
    (λ g (y, (other, e)). is ∙ ap (λ z. fault ExportClash (bare_at (item_name i) z)) (same y other) ∙ e) (adds_push old new f more)
  where
    same : (y : List ℕ) → IsLeastOf all given (Some y) → x ≡ y
    same y ((q, (c, (s, e))), below) = let (p, (d, (t, f))) = least.0 in
        at_most_both x y (subst (λ z. IsAtMost x z) e (least.1 q c s)) (subst (λ z. IsAtMost y z) f (below p d t))

-- What an item gives, by its cases

module _ (m : Module) (fs : List Interface) where
  gives_behind : (t : Entity) (n : Identifier) (s : SubItems) (p : Pair) → Rattle.hm_names.specs.Scope.Means m fs Types n t → GivesBehind m fs t s p → Gives m fs p.text p.entity (export.Con n s) p.space
  gives_behind t n subs.None p means h = absurd h
  gives_behind t n subs.All p means (_, (space, has)) = subst (λ z. Gives m fs p.text p.entity (export.Con n subs.All) z) (sym space) (each_constructor means has)
  gives_behind t n (subs.Some cs) p means (c, (listed, ((_, (space, has)), text))) = subst (λ z. Gives m fs p.text p.entity (export.Con n (subs.Some cs)) z) (sym space) (a_constructor means listed (sym text) has)

  pub gives : (i : Export) (p : Pair) → GivesPair m fs i p → (p.qualifier ≡ None) × Gives m fs p.text p.entity i p.space
  gives (export.Var n) p (e, (means, is)) = subst (λ z. (z.qualifier ≡ None) × Gives m fs z.text z.entity (export.Var n) z.space) is (refl, a_value means refl)
  gives (export.Con n s) p (t, (means, h)) = ⊎_elim (λ is. subst (λ z. (z.qualifier ≡ None) × Gives m fs z.text z.entity (export.Con n s) z.space) is (refl, a_type means refl)) (λ b. (unqualified s b, gives_behind t n s p means b)) h
    where
      unqualified : (s : SubItems) → GivesBehind m fs t s p → p.qualifier ≡ None
      unqualified subs.None b = absurd b
      unqualified subs.All b = b.0
      unqualified (subs.Some cs) b = b.1.1.0.0
  gives (export.Whole n) p (named, (none, (alone, under))) = (none, whole named alone under)

  pub given : (i : Export) (s : Namespace) (x : List ℕ) (e : Entity) → Gives m fs x e i s → GivesPair m fs i (bare_pair s x e)
  given (export.Var n) s x e (a_value means is) = (e, (means, ap (λ z. bare_pair Values z e) is))
  given (export.Con n k) s x e (a_type means is) = (e, (means, inl (ap (λ z. bare_pair Types z e) is)))
  given (export.Con n subs.All) s x e (each_constructor {t = t} means has) = (t, (means, inr (refl, (refl, has))))
  given (export.Con n (subs.Some cs)) s x e (a_constructor {c = c} {t = t} means listed is has) = (t, (means, inr (c, (listed, ((refl, (refl, has)), sym is)))))
  given (export.Whole n) s x e (whole named alone under) = (named, (refl, (alone, under)))

  -- the least name among those of an item that mean several is its least clash
  module _ (before : List Export) (i : Export) (all out : List Pair) (every : (p : Pair) → Contains all p ↔ ((j : Export) × (Contains (before ++ i ∷ []) j × GivesPair m fs j p))) (own : (p : Pair) → Contains out p ↔ GivesPair m fs i p) where
    other_item : (p q : Pair) → Contains all q → (q.space ≡ p.space) × (q.qualifier ≡ p.qualifier) × (q.text ≡ p.text) → (j : Export) × ((Contains before j ⊎ (j ≡ i)) × Gives m fs p.text q.entity j p.space)
    other_item p q c (space, qualifier, text) =
        let (j, (stands, h)) = (every q).0 c in
        (j, (⊎_elim (λ b. inl b) (λ e. inr (sym e)) (Contains-push_cases before i j stands), subst (λ z. Gives m fs z q.entity j p.space) text (subst (λ z. Gives m fs q.text q.entity j z) space (gives j q h).1)))

    clashes : (p : Pair) → Contains out p → IsSeveral all p → Clashes m fs before i p.text
    clashes p c s = elim (entity_discrete p.entity s.one.entity) [
      | yes same ↦ let o = other_item p s.other s.has_other s.other_name in record { space = p.space; one = p.entity; given = (gives i p ((own p).0 c)).1; item = o.0; stands = o.1.0; other = s.other.entity; given_too = o.1.1; differ = λ e. s.differ (sym same ∙ e) }
      | no apart ↦ let o = other_item p s.one s.has_one s.one_name in record { space = p.space; one = p.entity; given = (gives i p ((own p).0 c)).1; item = o.0; stands = o.1.0; other = s.one.entity; given_too = o.1.1; differ = apart }
    ]

    several : (x : List ℕ) → Clashes m fs before i x → (p : Pair) × (Contains out p × (IsSeveral all p × (p.text ≡ x)))
    several x h =
        let p = bare_pair h.space x h.one in
        let q = bare_pair h.space x h.other in
        let mine : GivesPair m fs i p = given i h.space x h.one h.given in (
          p,
          (
            (own p).1 mine,
            (
              record {
                one = p;
                other = q;
                has_one = (every p).1 (i, (Contains-push before i, mine));
                has_other = (every q).1 (h.item, (⊎_elim (λ b. Contains-append_left before (i ∷ []) h.item b) (λ e. subst (λ z. Contains (before ++ i ∷ []) z) (sym e) (Contains-push before i)) h.stands, given h.item h.space x h.other h.given_too));
                one_name = (refl, refl, refl);
                other_name = (refl, refl, refl);
                differ = h.differ;
              },
              refl,
            ),
          ),
        )

    pub least_is_clash : (g : Fault) → LeastFault all out i g → ClashFault m fs before i g
    least_is_clash g (x, (((p, (c, (s, e))), least), is)) = (x, (subst (λ z. Clashes m fs before i z) e (clashes p c s), (λ y h. let (q, (d, (t, f))) = several y h in subst (λ z. IsAtMost x z) f (least q d t), is)))

    pub clash_is_least : (g : Fault) → ClashFault m fs before i g → LeastFault all out i g
    clash_is_least g (x, (h, (least, is))) = (x, ((several x h, λ q d t. least q.text (clashes q d t)), is))
