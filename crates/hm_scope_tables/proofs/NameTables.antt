-- Tables of names: what a table tells of a name, and what it tells after one more pair.
use Rattle.std.proofs.Common.{◌≡◌, ℕ, true, false, cond, List, [], ◌∷◌, ◌++◌, Option, Some, None, inl, inr, refl, sym, ap, ◌∙◌, subst, Bor, option_map, Decides, bytes_eq, ◌+◌, ◌<◌, length, take, get_or}
use Rattle.std.specs.Option.{option_eq}
use Rattle.std.proofs.lemmas.Bool.{cases_Bool, both_ways}
use Rattle.std.proofs.lemmas.Bool.Decides.{Decides-and}
use Rattle.std.proofs.lemmas.List.Elements.{Contains-push, Contains-push_cases, Contains-append_left}
use Rattle.std.proofs.lemmas.List.{take_more}
use Rattle.std.proofs.lemmas.Slice.Eq.{bytes_eq-Decides}
use Rattle.indexmap.specs.IndexMap.{get_by}
use denote.Enum.Bare.{sameb}
use Rattle.hm_names.specs.contracts.namespace.Namespace.{the_type}
use Rattle.hm_names.specs.declared.namespace.Namespace.{Namespace}
use Rattle.hm_names.specs.declared.namespace.Namespace.TheVariants.{Types, Constructors, Values}
use Rattle.hm_scope_tables.specs.declared.keys.Key.{Key}
use Rattle.hm_scope_tables.specs.declared.table.Slot.{Slot}
use Rattle.hm_scope_tables.specs.declared.table.Slot.TheVariants.{One, Several}
use Rattle.hm_types.specs.declared.Entity.{Entity}
use Rattle.hm_names.specs.Bindings.{Pair}
use Rattle.hm_scope_tables.specs.Tables.{IsNamed, same_key, Tells, IsTold, Table, IsTable}

same_space : (a b : Namespace) → Decides (sameb the_type a b) (a ≡ b)
same_space Types Types = (λ _. refl, λ _. refl)
same_space Types Constructors = (λ e. let f : false ≡ true = e in cc, λ e. cc)
same_space Types Values = (λ e. let f : false ≡ true = e in cc, λ e. cc)
same_space Constructors Types = (λ e. let f : false ≡ true = e in cc, λ e. cc)
same_space Constructors Constructors = (λ _. refl, λ _. refl)
same_space Constructors Values = (λ e. let f : false ≡ true = e in cc, λ e. cc)
same_space Values Types = (λ e. let f : false ≡ true = e in cc, λ e. cc)
same_space Values Constructors = (λ e. let f : false ≡ true = e in cc, λ e. cc)
same_space Values Values = (λ _. refl, λ _. refl)

same_qualifier : (a b : Option (Bor (List ℕ))) → Decides (option_eq (λ x y. bytes_eq x.now y.now) a b) (option_map (λ q. q.now) a ≡ option_map (λ q. q.now) b)
same_qualifier None None = (λ _. refl, λ _. refl)
same_qualifier None (Some y) = (λ e. let f : false ≡ true = e in cc, λ e. cc)
same_qualifier (Some x) None = (λ e. let f : false ≡ true = e in cc, λ e. cc)
same_qualifier (Some x) (Some y) = (λ e. ap Some ((bytes_eq-Decides x.now y.now).0 e), λ e. (bytes_eq-Decides x.now y.now).1 (cc))

-- two keys are one name
pub record IsSameName (j k : Key) : Type 0 where
  pub space : j.space ≡ k.space
  pub qualifier : option_map (λ q. q.now) j.qualifier ≡ option_map (λ q. q.now) k.qualifier
  pub text : j.text.now ≡ k.text.now

pub same_key_decides : (j k : Key) → Decides (same_key j k) (IsSameName j k)
same_key_decides j k =
    let parts = Decides-and _ _ (same_space j.space k.space) (Decides-and _ _ (same_qualifier j.qualifier k.qualifier) (bytes_eq-Decides j.text.now k.text.now)) in
    (λ e. let p = parts.0 e in record { space = p.0; qualifier = p.1.0; text = p.1.1 }, λ s. parts.1 (s.space, (s.qualifier, s.text)))

named_there : (j k : Key) (p : Pair) → IsSameName j k → IsNamed j p → IsNamed k p
named_there j k p s n = record { space = n.space ∙ s.space; qualifier = n.qualifier ∙ s.qualifier; text = n.text ∙ s.text }

named_back : (j k : Key) (p : Pair) → IsSameName j k → IsNamed k p → IsNamed j p
named_back j k p s n = record { space = n.space ∙ sym s.space; qualifier = n.qualifier ∙ sym s.qualifier; text = n.text ∙ sym s.text }

-- a pair has one name
named_both : (j k : Key) (p : Pair) → IsNamed j p → IsNamed k p → IsSameName j k
named_both j k p m n = record { space = sym m.space ∙ n.space; qualifier = sym m.qualifier ∙ n.qualifier; text = sym m.text ∙ n.text }

tells_there : (pairs : List Pair) (j k : Key) (s : Slot) → IsSameName j k → Tells pairs j s → Tells pairs k s
tells_there pairs j k (One e) same t = record {
  member = let m = t.member in (m.0, (m.1.0, named_there j k m.0 same m.1.1));
  all = λ p h n. t.all p h (named_back j k p same n);
}
tells_there pairs j k Several same t = record {
  one = t.one;
  other = t.other;
  has_one = t.has_one;
  has_other = t.has_other;
  one_named = named_there j k t.one same t.one_named;
  other_named = named_there j k t.other same t.other_named;
  differ = t.differ;
}

-- one more pair, where pairs of two entities are there
pub tells_several : (pairs : List Pair) (p : Pair) (k : Key) → Tells pairs k Several → Tells (pairs ++ p ∷ []) k Several
tells_several pairs p k t = record {
  one = t.one;
  other = t.other;
  has_one = Contains-append_left pairs (p ∷ []) t.one t.has_one;
  has_other = Contains-append_left pairs (p ∷ []) t.other t.has_other;
  one_named = t.one_named;
  other_named = t.other_named;
  differ = t.differ;
}

-- a name that a pair does not have keeps what is told of it
told_kept : (pairs : List Pair) (p : Pair) (k : Key) (o : Option Slot) → ¬ IsNamed k p → IsTold pairs k o → IsTold (pairs ++ p ∷ []) k o
told_kept pairs p k None other t = λ q h n. elim (Contains-push_cases pairs p q h) [ inl before ↦ t q before n | inr is ↦ other (subst (λ r. IsNamed k r) (sym is) n) ]
told_kept pairs p k (Some (One e)) other t = record {
  member = let m = t.member in (m.0, (Contains-append_left pairs (p ∷ []) m.0 m.1.0, m.1.1));
  all = λ q h n. elim (Contains-push_cases pairs p q h) [ inl before ↦ t.all q before n | inr is ↦ absurd (other (subst (λ r. IsNamed k r) (sym is) n)) ];
}
told_kept pairs p k (Some Several) other t = tells_several pairs p k t

-- the first pair of a name
pub tells_first : (pairs : List Pair) (p : Pair) (k : Key) (e : Entity) → IsNamed k p → IsTold pairs k None → p.entity ≡ e → Tells (pairs ++ p ∷ []) k (One e)
tells_first pairs p k e named none is = record {
  member = (p, (Contains-push pairs p, named));
  all = λ q h n. elim (Contains-push_cases pairs p q h) [ inl before ↦ absurd (none q before n) | inr last ↦ sym (ap (λ (r : Pair). r.entity) last) ∙ is ];
}

-- one more pair of the entity that all others are of
pub tells_same : (pairs : List Pair) (p : Pair) (k : Key) (e : Entity) → p.entity ≡ e → Tells pairs k (One e) → Tells (pairs ++ p ∷ []) k (One e)
tells_same pairs p k e is t = record {
  member = let m = t.member in (m.0, (Contains-append_left pairs (p ∷ []) m.0 m.1.0, m.1.1));
  all = λ q h n. elim (Contains-push_cases pairs p q h) [ inl before ↦ t.all q before n | inr last ↦ sym (ap (λ (r : Pair). r.entity) last) ∙ is ];
}

-- one more pair, of another entity than all others
pub tells_other : (pairs : List Pair) (p : Pair) (k : Key) (e : Entity) → IsNamed k p → ¬ (p.entity ≡ e) → Tells pairs k (One e) → Tells (pairs ++ p ∷ []) k Several
tells_other pairs p k e named apart t = let m = t.member in record {
  one = p;
  other = m.0;
  has_one = Contains-push pairs p;
  has_other = Contains-append_left pairs (p ∷ []) m.0 m.1.0;
  one_named = named;
  other_named = m.1.1;
  differ = λ same. apart (same ∙ t.all m.0 m.1.0 m.1.1);
}

-- a table into which a pair was noted
pub noted : (pairs : List Pair) (p : Pair) (old new : Table) (key : Key) (slot : Slot) → IsNamed key p → IsTable pairs old → Tells (pairs ++ p ∷ []) key slot
    → ((q : Key) → get_by (same_key q) new ≡ cond (same_key key q) (Some slot) (get_by (same_key q) old)) → IsTable (pairs ++ p ∷ []) new
noted pairs p old new key slot named table tells updated k = elim (cases_Bool (same_key key k)) [
  | inl same ↦
      let told : get_by (same_key k) new ≡ Some slot = updated k ∙ ap (λ b. cond b (Some slot) (get_by (same_key k) old)) same in
      subst (λ o. IsTold (pairs ++ p ∷ []) k o) (sym told) (tells_there (pairs ++ p ∷ []) key k slot ((same_key_decides key k).0 same) tells)
  | inr apart ↦
      let kept : get_by (same_key k) new ≡ get_by (same_key k) old = updated k ∙ ap (λ b. cond b (Some slot) (get_by (same_key k) old)) apart in
      let other : ¬ IsNamed k p = λ n. both_ways (same_key key k) apart ((same_key_decides key k).1 (named_both key k p named n)) in
      subst (λ o. IsTold (pairs ++ p ∷ []) k o) (sym kept) (told_kept pairs p k (get_by (same_key k) old) other (table k))
]

-- a second write at a name hides the first
pub noted_twice : (old middle new : Table) (key : Key) (first slot : Slot) → ((q : Key) → get_by (same_key q) middle ≡ cond (same_key key q) (Some first) (get_by (same_key q) old))
    → ((q : Key) → get_by (same_key q) new ≡ cond (same_key key q) (Some slot) (get_by (same_key q) middle)) → (q : Key) → get_by (same_key q) new ≡ cond (same_key key q) (Some slot) (get_by (same_key q) old)
noted_twice old middle new key first slot before after q = after q ∙ elim (cases_Bool (same_key key q)) [
  | inl same ↦ ap (λ b. cond b (Some slot) (get_by (same_key q) middle)) same ∙ sym (ap (λ b. cond b (Some slot) (get_by (same_key q) old)) same)
  | inr apart ↦ ap (cond (same_key key q) (Some slot)) (before q ∙ ap (λ b. cond b (Some first) (get_by (same_key q) old)) apart)
]

pub noted_more : (items : List Pair) (i : ℕ) (p : Pair) (table : Table) → i < length items → p ≡ get_or items i p → IsTable (take i items ++ p ∷ []) table → IsTable (take (i + 1) items) table
noted_more items i p table inside is t =
    let more : take (i + 1) items ≡ take i items ++ p ∷ [] = take_more items i p inside ∙ ap (λ x. take i items ++ x ∷ []) (sym is) in
    subst (λ l. IsTable l table) (sym more) t
