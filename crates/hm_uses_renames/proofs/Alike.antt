-- Names that mean the same before a rename do so after it, and the other way round.
use Rattle.std.proofs.Common.{◌≡◌, ◌⊎◌, ◌↔◌, ℕ, ◌<◌, Bool, true, false, IsTrue, List, length, get_or, Option, Some, None, inl, inr, refl, sym, ap, ◌∙◌, subst, arith}
use Rattle.std.proofs.lemmas.List.{get_or_default}
use mathlib.Core.Bool.{beq, not}
use Rattle.hm_uses.specs.Uses.{Sense, local_variable, type_variable, an_entity, a_module, a_prefix, unbound, ambiguous}
use Rattle.hm_uses_references.specs.SetNames.{IsSame, IsShared, SetName}
use Rattle.hm_uses_references.proofs.Classes.{symmetric, transitive}
use Rattle.hm_uses_renames.specs.declared.firsts.BindingPlace.{BindingPlace}
use Rattle.hm_uses_renames.specs.Firsts.{ArePaired, IsPaired, spot_in, spot_of}
use Rattle.hm_uses_renames.specs.Renames.{AreRenamed, Becomes, renamed, kept, IsKept, IsStill}

-- two tests with one result decide the same
pub one_test : (a b : Bool) (P Q : Type 0) → not (beq a b) ≡ false → IsTrue a ↔ P → IsTrue b ↔ Q → P ↔ Q
one_test true true P Q e p q = (λ h. q.0 (p.1 h), λ h. p.0 (q.1 h))
one_test false false P Q e p q = (λ h. q.0 (p.1 h), λ h. p.0 (q.1 h))
one_test true false P Q e p q = absurd (cc)
one_test false true P Q e p q = absurd (cc)

-- whether a text binds the meaning
abbrev is_bound : Sense → Bool
is_bound (local_variable l c) = true
is_bound (type_variable l c) = true
is_bound (an_entity e) = false
is_bound (a_module x) = false
is_bound (a_prefix x) = false
is_bound unbound = false
is_bound ambiguous = false

-- the meaning is the same, or may have moved
abbrev IsSteady : Sense → Sense → Type 0
IsSteady s t = ((t ≡ s) × (is_bound s ≡ false)) ⊎ ((is_bound s ≡ true) × (is_bound t ≡ true))

steady : (s t : Sense) → IsStill s t → IsSteady s t
steady (local_variable l c) t h = inr (refl, ap is_bound h.1.1)
steady (type_variable l c) t h = inr (refl, ap is_bound h.1.1)
steady (an_entity e) t h = inl (h, refl)
steady (a_module x) t h = inl (h, refl)
steady (a_prefix x) t h = inl (h, refl)
steady unbound t h = inl (h, refl)
steady ambiguous t h = inl (h, refl)

steady_back : (s t : Sense) → IsSteady s t → IsSteady t s
steady_back s t h = elim h [
  | inl w ↦ inl (sym w.0, ap is_bound w.0 ∙ w.1)
  | inr w ↦ inr (w.1, w.0)
]

bound_spot : (i : ℕ) (s : Sense) → is_bound s ≡ true → (x : BindingPlace) × (spot_in i s ≡ Some x)
bound_spot i (local_variable l c) h = (record { number = i; line = l; column = c }, refl)
bound_spot i (type_variable l c) h = (record { number = i; line = l; column = c }, refl)
bound_spot i (an_entity e) h = absurd (cc)
bound_spot i (a_module x) h = absurd (cc)
bound_spot i (a_prefix x) h = absurd (cc)
bound_spot i unbound h = absurd (cc)
bound_spot i ambiguous h = absurd (cc)

one_number : (i j : ℕ) (s : Sense) → is_bound s ≡ true → IsShared i j s → i ≡ j
one_number i j (local_variable l c) h shared = shared
one_number i j (type_variable l c) h shared = shared
one_number i j (an_entity e) h shared = absurd (cc)
one_number i j (a_module x) h shared = absurd (cc)
one_number i j (a_prefix x) h shared = absurd (cc)
one_number i j unbound h shared = absurd (cc)
one_number i j ambiguous h shared = absurd (cc)

-- names that mean the same have one spot
one_spot : (m n : SetName) (x : BindingPlace) → IsSame m n → is_bound m.used.sense ≡ true → spot_of m ≡ Some x → spot_of n ≡ Some x
one_spot m n x same bound at =
    let number : m.number ≡ n.number = one_number m.number n.number m.used.sense bound same.shared in
    subst (λ (s : Sense). spot_in n.number s ≡ Some x) same.sense (subst (λ (i : ℕ). spot_in i m.used.sense ≡ Some x) number at)

some_or : ℕ → Option ℕ → ℕ
some_or d None = d
some_or d (Some k) = k

one_some : (o : Option ℕ) (j k : ℕ) → o ≡ Some j → o ≡ Some k → j ≡ k
unfolding some_or
one_some o j k e f = ap (some_or 0) (sym e ∙ f)

-- meanings that stay as they are
stayed : (m n m' n' : SetName) → m'.number ≡ m.number → n'.number ≡ n.number → m'.used.mention.kind ≡ m.used.mention.kind → n'.used.mention.kind ≡ n.used.mention.kind
    → m'.used.sense ≡ m.used.sense → n'.used.sense ≡ n.used.sense → IsSame m n → IsSame m' n'
stayed m n m' n' number_m number_n kind_m kind_n sense_m sense_n same = record {
  kind = kind_m ∙ (same.kind ∙ sym kind_n);
  sense = sense_m ∙ (same.sense ∙ sym sense_n);
  shared = subst (λ (s : Sense). IsShared m'.number n'.number s) (sym sense_m)
      (subst (λ (j : ℕ). IsShared m'.number j m.used.sense) (sym number_n) (subst (λ (i : ℕ). IsShared i n.number m.used.sense) (sym number_m) same.shared));
}

-- meanings that are bound in a text: the table has one number for both
bound_alike : (table : BindingPlace → Option ℕ) (others : List SetName) (m n m' n' : SetName) → IsPaired table others m m' → IsPaired table others n n' → is_bound m.used.sense ≡ true → IsSame m n → IsSame m' n'
bound_alike table others m n m' n' pair_m pair_n bound same =
    let spot = bound_spot m.number m.used.sense bound in
    let a = pair_m spot.0 spot.1 in
    let b = pair_n spot.0 (one_spot m n spot.0 same bound spot.1) in
    let number : a.0 ≡ b.0 = one_some (table spot.0) a.0 b.0 a.1.0 b.1.0 in
    let one : get_or others a.0 m' ≡ get_or others b.0 n' = get_or_default others a.0 m' n' a.1.1.0 ∙ ap (λ (k : ℕ). get_or others k n') number in
    transitive m' (get_or others a.0 m') n' (symmetric (get_or others a.0 m') m' a.1.1.1) (subst (λ (z : SetName). IsSame z n') (sym one) b.1.1.1)

apart : (s t : Sense) → s ≡ t → is_bound s ≡ false → is_bound t ≡ true → ⊥
apart s t e f g = let z : false ≡ true = sym f ∙ (ap is_bound e ∙ g) in absurd (cc)

forward : (table : BindingPlace → Option ℕ) (others : List SetName) (m n m' n' : SetName) → m'.number ≡ m.number → n'.number ≡ n.number → m'.used.mention.kind ≡ m.used.mention.kind → n'.used.mention.kind ≡ n.used.mention.kind
    → IsSteady m.used.sense m'.used.sense → IsSteady n.used.sense n'.used.sense → IsPaired table others m m' → IsPaired table others n n' → IsSame m n → IsSame m' n'
forward table others m n m' n' number_m number_n kind_m kind_n steady_m steady_n pair_m pair_n same = elim steady_m [
  | inl a ↦ elim steady_n [
    | inl b ↦ stayed m n m' n' number_m number_n kind_m kind_n a.0 b.0 same
    | inr b ↦ absurd (apart m.used.sense n.used.sense same.sense a.1 b.0)
  ]
  | inr a ↦ bound_alike table others m n m' n' pair_m pair_n a.0 same
]

kept_alike : (new : List ℕ) (table later_table : BindingPlace → Option ℕ) (names later : List SetName) (m n m' n' : SetName) → IsKept new m m' → IsKept new n n' → IsPaired table later m m' → IsPaired table later n n'
    → IsPaired later_table names m' m → IsPaired later_table names n' n → IsSame m n ↔ IsSame m' n'
kept_alike new table later_table names later m n m' n' h k pair_m pair_n back_m back_n =
    let a = steady m.used.sense m'.used.sense h.means in
    let b = steady n.used.sense n'.used.sense k.means in (
      λ same. forward table later m n m' n' h.stands.number k.stands.number h.stands.kind k.stands.kind a b pair_m pair_n same,
      λ same. forward later_table names m' n' m n (sym h.stands.number) (sym k.stands.number) (sym h.stands.kind) (sym k.stands.kind) (steady_back m.used.sense m'.used.sense a) (steady_back n.used.sense n'.used.sense b)
          back_m back_n same,
    )

-- two names, of which each is renamed or kept
two_alike : (o r : SetName) (new : List ℕ) (m n m' n' : SetName) → Becomes o new m m' → Becomes o new n n' → IsSame o m ↔ IsSame r m' → IsSame o n ↔ IsSame r n' → (IsKept new m m' → IsKept new n n' → IsSame m n ↔ IsSame m' n')
    → IsSame m n ↔ IsSame m' n'
two_alike o r new m n m' n' (renamed h x) (renamed k y) at_m at_n others =
    (λ same. transitive m' r n' (symmetric r m' (at_m.0 h)) (at_n.0 k), λ same. transitive m o n (symmetric o m h) k)
two_alike o r new m n m' n' (renamed h x) (kept k y) at_m at_n others =
    (λ same. absurd (k (transitive o m n h same)), λ same. absurd (k (at_n.1 (transitive r m' n' (at_m.0 h) same))))
two_alike o r new m n m' n' (kept h x) (renamed k y) at_m at_n others =
    (λ same. absurd (h (transitive o n m k (symmetric m n same))), λ same. absurd (h (at_m.1 (transitive r n' m' (at_n.0 k) (symmetric m' n' same)))))
two_alike o r new m n m' n' (kept h x) (kept k y) at_m at_n others = others x y

pub all_renamed : (o r : SetName) (new : List ℕ) (names later : List SetName) (table later_table : BindingPlace → Option ℕ) → length names ≡ length later
    → ((i : ℕ) (d : SetName) → i < length names → Becomes o new (get_or names i d) (get_or later i d)) → ((i : ℕ) (d : SetName) → i < length names → IsSame o (get_or names i d) ↔ IsSame r (get_or later i d))
    → ArePaired table names later → ArePaired later_table later names → AreRenamed o new names later
all_renamed o r new names later table later_table size each one pairs backs = record {
  as_many = sym size;
  each = each;
  alike = λ i j d below_i below_j.
      let within_i : i < length later = omega (arith, size, below_i) in
      let within_j : j < length later = omega (arith, size, below_j) in
      two_alike o r new (get_or names i d) (get_or names j d) (get_or later i d) (get_or later j d) (each i d below_i) (each j d below_j) (one i d below_i) (one j d below_j)
      (λ h k. kept_alike new table later_table names later (get_or names i d) (get_or names j d) (get_or later i d) (get_or later j d) h k (pairs i d below_i) (pairs j d below_j) (backs i d within_i) (backs j d within_j));
}
