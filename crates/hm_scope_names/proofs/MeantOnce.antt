-- The names that mean one entity, with those of one more pair.
use Rattle.std.proofs.Common.{◌≡◌, List, [], ◌∷◌, ◌++◌, ◌⊎◌, inl, inr, ⊎_elim, ◌↔◌, Contains, refl, sym, ap, subst, ◌∙◌}
use Rattle.std.proofs.lemmas.List.Elements.{Contains-append_left, Contains-push, Contains-push_cases}
use Rattle.hm_names.specs.Bindings.{IsSeveral, Pair}
use Rattle.hm_names.proofs.Members.{entity_discrete, first, none_in, rest}
use Rattle.hm_scope_names.specs.Meant.{AreApart, AreMeantIn, HaveOneName, name_of}
use Rattle.hm_scope_tables.specs.NameSets.{FullName}

pub apart_push : (ps : List Pair) (p : Pair) → AreApart ps → ((q : Pair) → Contains ps q → ¬ (HaveOneName q p)) → AreApart (ps ++ p ∷ [])
apart_push [] p apart other = (λ q c. absurd (none_in q c), tt)
apart_push (o ∷ os) p apart other = (
  λ q c. elim (Contains-push_cases os p q c) [ inl before ↦ apart.0 q before | inr is ↦ subst (λ (z : Pair). ¬ (HaveOneName o z)) is (other o (first o os)) ],
  apart_push os p apart.1 (λ q c. other q (rest o os q c)),
)

module _ (pairs before : List Pair) (seen : List FullName) (names : List Pair) (p : Pair) (so_far : AreMeantIn pairs before seen names) (within : (q : Pair) → Contains (before ++ p ∷ []) q → Contains pairs q) where
  wider : (q : Pair) → Contains before q → Contains (before ++ p ∷ []) q
  wider q c = Contains-append_left before (p ∷ []) q c

  several : (q : Pair) → Contains before q → name_of q ≡ name_of p → ¬ (q.entity ≡ p.entity) → IsSeveral pairs p
  several q c same apart = record {
    one = q;
    other = p;
    has_one = within q (wider q c);
    has_other = within p (Contains-push before p);
    one_name = (ap (λ (n : FullName). n.space) same, ap (λ (n : FullName). n.qualifier) same, ap (λ (n : FullName). n.text) same);
    other_name = (refl, refl, refl);
    differ = apart;
  }

  -- a pair with the name of one that means one entity is that pair
  same_pair : (q : Pair) → Contains before q → name_of q ≡ name_of p → ¬ (IsSeveral pairs p) → q ≡ p
  same_pair q c same alone = elim (entity_discrete q.entity p.entity) [
    | yes e ↦ λ i. record { space = (same i).space; qualifier = (same i).qualifier; text = (same i).text; entity = e i }
    | no n ↦ absurd (alone (several q c same n))
  ]

  -- the name was seen
  pub seen_before : Contains seen (name_of p) → AreMeantIn pairs (before ++ p ∷ []) seen names
  seen_before there = record {
    seen_are = λ n. (
      λ c. let h = (so_far.seen_are n).0 c in (h.0, (wider h.0 h.1.0, h.1.1)),
      λ h. elim (Contains-push_cases before p h.0 h.1.0) [
        | inl old ↦ (so_far.seen_are n).1 (h.0, (old, h.1.1))
        | inr is ↦ subst (λ (m : FullName). Contains seen m) (ap name_of is ∙ h.1.1) there
      ],
    );
    sound = λ q c. let h = so_far.sound q c in (wider q h.0, h.1);
    complete = λ q c alone. elim (Contains-push_cases before p q c) [
      | inl old ↦ so_far.complete q old alone
      | inr is ↦
          let known = (so_far.seen_are (name_of p)).0 there in
          let alone_p : ¬ (IsSeveral pairs p) = subst (λ (z : Pair). ¬ (IsSeveral pairs z)) (sym is) alone in
          let same : known.0 ≡ p = same_pair known.0 known.1.0 known.1.1 alone_p in
          subst (λ (z : Pair). Contains names z) (same ∙ is) (so_far.complete known.0 known.1.0 (subst (λ (z : Pair). ¬ (IsSeveral pairs z)) (sym same) alone_p))
    ];
    apart = so_far.apart;
  }

  abbrev Adds : List FullName → Type 0
  Adds new = (n : FullName) → Contains new n ↔ (Contains seen n ⊎ (n ≡ name_of p))

  added : (new : List FullName) → Adds new → (n : FullName) → Contains new n ↔ ((q : Pair) × (Contains (before ++ p ∷ []) q × (name_of q ≡ n)))
  added new adds n = (
    λ c. ⊎_elim (λ old. let h = (so_far.seen_are n).0 old in (h.0, (wider h.0 h.1.0, h.1.1))) (λ is. (p, (Contains-push before p, sym is))) ((adds n).0 c),
    λ h. (adds n).1 (⊎_elim (λ old. inl ((so_far.seen_are n).1 (h.0, (old, h.1.1)))) (λ is. inr (sym (ap name_of is ∙ h.1.1))) (Contains-push_cases before p h.0 h.1.0)),
  )

  -- the name means several entities
  pub seen_several : (new : List FullName) → Adds new → IsSeveral pairs p → AreMeantIn pairs (before ++ p ∷ []) new names
  seen_several new adds is_several = record {
    seen_are = added new adds;
    sound = λ q c. let h = so_far.sound q c in (wider q h.0, h.1);
    complete = λ q c alone. ⊎_elim (λ old. so_far.complete q old alone) (λ is. absurd (alone (subst (λ (z : Pair). IsSeveral pairs z) is is_several))) (Contains-push_cases before p q c);
    apart = so_far.apart;
  }

  other_name : ¬ (Contains seen (name_of p)) → (q : Pair) → Contains names q → ¬ (HaveOneName q p)
  other_name absent q c one = absent ((so_far.seen_are (name_of p)).1 (q, ((so_far.sound q c).0, λ i. record { space = one.space i; qualifier = one.qualifier i; text = one.text i })))

  -- the name is new
  pub seen_more : (new : List FullName) (more : List Pair) → Adds new → ¬ (Contains seen (name_of p)) → ¬ (IsSeveral pairs p) → more ≡ names ++ p ∷ [] → AreMeantIn pairs (before ++ p ∷ []) new more
  seen_more new more adds absent alone pushed = subst (λ (l : List Pair). AreMeantIn pairs (before ++ p ∷ []) new l) (sym pushed) (record {
    seen_are = added new adds;
    sound = λ q c. ⊎_elim (λ old. let h = so_far.sound q old in (wider q h.0, h.1)) (λ is. (subst (λ (z : Pair). Contains (before ++ p ∷ []) z) is (Contains-push before p), subst (λ (z : Pair). ¬ (IsSeveral pairs z)) is alone)) (Contains-push_cases names p q c);
    complete = λ q c single. ⊎_elim (λ old. Contains-append_left names (p ∷ []) q (so_far.complete q old single)) (λ is. subst (λ (z : Pair). Contains (names ++ p ∷ []) z) is (Contains-push names p)) (Contains-push_cases before p q c);
    apart = apart_push names p so_far.apart (other_name absent);
  })

-- nothing was seen
pub meant_none : (pairs : List Pair) (seen : List FullName) (names : List Pair) → seen ≡ [] → names ≡ [] → AreMeantIn pairs [] seen names
meant_none pairs seen names none no_names = subst (λ (l : List FullName). AreMeantIn pairs [] l names) (sym none) (subst (λ (l : List Pair). AreMeantIn pairs [] [] l) (sym no_names) (record {
  seen_are = λ n. (λ c. absurd (none_in n c), λ h. absurd (none_in h.0 h.1.0));
  sound = λ q c. absurd (none_in q c);
  complete = λ q c alone. absurd (none_in q c);
  apart = tt;
}))
