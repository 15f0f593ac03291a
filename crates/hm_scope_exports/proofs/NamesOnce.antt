-- One binding for each name.
use Rattle.std.proofs.Common.{◌≡◌, ℕ, Bool, true, false, cond, not, ◌||◌, List, [], ◌∷◌, ◌++◌, map, ⊎_elim, refl, sym, ap, ◌∙◌, subst, Contains, bytes_eq, IsPermutation}
use Rattle.std.specs.Prelude.{◌↔◌}
use Rattle.std.specs.Cmp.Lexicographic.{slice_cmp, nat_list_eq_equiv}
use denote.Enum.Bare.{sameb}
use Rattle.hm_names.specs.contracts.namespace.Namespace.{the_type}
use Rattle.std.specs.List.{IsDistinct, list_any}
use Rattle.std.specs.List.Sorted.{IsSortedBy}
use Rattle.std.specs.Ordering.{nat_cmp, is_lt}
use Rattle.std.proofs.lemmas.Bool.{both_ways}
use Rattle.std.proofs.lemmas.List.{map-append}
use Rattle.std.proofs.lemmas.List.Elements.{Contains-push, Contains-push_cases, Contains-append_left}
use Rattle.std.proofs.lemmas.List.Sorted.{Contains-permutation, IsPermutation-sym, IsPermutation-map}
use Rattle.std.proofs.lemmas.Map.Keys.{IsDistinct-push, IsDistinct-IsPermutation}
use Rattle.hm_types.specs.declared.Entity.{Entity}
use Rattle.hm_types.specs.Interfaces.{AreOrdered}
use Rattle.hm_types.proofs.Sorting.{ordered_from_sort_by_key}
use Rattle.hm_names.specs.declared.cores.Exported.{Exported}
use Rattle.hm_names.specs.declared.namespace.Namespace.{Namespace}
use Rattle.hm_names.specs.Bindings.{Pair}
use Rattle.hm_scope_exports.specs.ExportedRows.{HaveOneEntity, IsBound, AreOnePerName, exported_of}
use Rattle.hm_names.specs.Texts.{is_text_among}
use Rattle.hm_scope_export_items.proofs.BareSets.{same_space}
use Rattle.hm_names.proofs.Standing.{among_decides}
use Rattle.hm_names.proofs.Members.{none_in, mapped}

any_among : (x : List ℕ) (ys : List (List ℕ)) → list_any (bytes_eq x) ys ≡ is_text_among x ys
any_among x [] = refl
any_among x (y ∷ ys) = ap (λ b. bytes_eq x y || b) (any_among x ys)

not_true : (b r : Bool) → r ≡ not b → r ≡ true → b ≡ false
not_true true r is t = absurd (let h : true ≡ false = sym t ∙ is in cc)
not_true false r is t = refl

not_false : (b r : Bool) → r ≡ not b → r ≡ false → b ≡ true
not_false true r is f = refl
not_false false r is f = absurd (let h : false ≡ true = sym f ∙ is in cc)

-- the answer of a comparison of namespaces
pub is_space : (a b : Namespace) (r : Bool) → r ≡ not (sameb the_type a b) → r ≡ false → a ≡ b
is_space a b r is f = (same_space a b).0 (not_false (sameb the_type a b) r is f)

pub isnt_space : (a b : Namespace) (r : Bool) → r ≡ not (sameb the_type a b) → r ≡ true → ¬ (a ≡ b)
isnt_space a b r is t e = both_ways (sameb the_type a b) (not_true (sameb the_type a b) r is t) ((same_space a b).1 e)

-- whether a name is new
pub is_new : (names : List (List ℕ)) (x y : List ℕ) (r : Bool) → r ≡ not (is_text_among x names) → x ≡ y → r ≡ true → is_text_among y names ≡ false
is_new names x y r is same t = ap (λ z. is_text_among z names) (sym same) ∙ not_true (is_text_among x names) r is t

pub isnt_new : (names : List (List ℕ)) (x y : List ℕ) (r : Bool) → r ≡ not (is_text_among x names) → x ≡ y → r ≡ false → is_text_among y names ≡ true
isnt_new names x y r is same f = ap (λ z. is_text_among z names) (sym same) ∙ not_false (is_text_among x names) r is f

module _ (s : Namespace) (seen : List Pair) (names : List (List ℕ)) (out : List Pair) (p : Pair) (once : AreOnePerName s seen names out) where
  wider : (q : Pair) → Contains seen q → Contains (seen ++ p ∷ []) q
  wider q c = Contains-append_left seen (p ∷ []) q c

  pub once_other : ¬ (p.space ≡ s) → AreOnePerName s (seen ++ p ∷ []) names out
  once_other apart = record {
    names_are = once.names_are;
    distinct = once.distinct;
    sound = λ q c. let h = once.sound q c in (wider q h.0, h.1);
    complete = λ q c e. ⊎_elim (λ b. once.complete q b e) (λ l. absurd (apart (ap (λ z. z.space) l ∙ e))) (Contains-push_cases seen p q c);
  }

  pub once_before : (new : List (List ℕ)) → new ≡ cond (is_text_among p.text names) names (names ++ p.text ∷ []) → is_text_among p.text names ≡ true → AreOnePerName s (seen ++ p ∷ []) new out
  once_before new is there =
      let same : new ≡ names = is ∙ ap (λ b. cond b names (names ++ p.text ∷ [])) there in
      subst (λ l. AreOnePerName s (seen ++ p ∷ []) l out) (sym same) (record {
        names_are = once.names_are;
        distinct = once.distinct;
        sound = λ q c. let h = once.sound q c in (wider q h.0, h.1);
        complete = λ q c e. ⊎_elim (λ b. once.complete q b e) (λ l. subst (λ z. Contains names z.text) l ((among_decides p.text names).0 there)) (Contains-push_cases seen p q c);
      })

  pub once_more : (new : List (List ℕ)) (more : List Pair) → p.space ≡ s → new ≡ cond (is_text_among p.text names) names (names ++ p.text ∷ []) → is_text_among p.text names ≡ false → more ≡ out ++ p ∷ [] → AreOnePerName s (seen ++ p ∷ []) new more
  once_more new more here is absent pushed =
      let added : new ≡ names ++ p.text ∷ [] = is ∙ ap (λ b. cond b names (names ++ p.text ∷ [])) absent in
      subst (λ l. AreOnePerName s (seen ++ p ∷ []) l more) (sym added) (subst (λ l. AreOnePerName s (seen ++ p ∷ []) (names ++ p.text ∷ []) l) (sym pushed) (record {
        names_are = ap (λ l. l ++ p.text ∷ []) once.names_are ∙ sym (map-append (λ (q : Pair). q.text) out (p ∷ []));
        distinct = IsDistinct-push nat_list_eq_equiv names p.text once.distinct (any_among p.text names ∙ absent);
        sound = λ q c. ⊎_elim (λ b. let h = once.sound q b in (wider q h.0, h.1)) (λ l. (subst (λ z. Contains (seen ++ p ∷ []) z) l (Contains-push seen p), sym (ap (λ z. z.space) l) ∙ here)) (Contains-push_cases out p q c);
        complete = λ q c e. ⊎_elim (λ b. Contains-append_left names (p.text ∷ []) q.text (once.complete q b e)) (λ l. subst (λ z. Contains (names ++ p.text ∷ []) z.text) l (Contains-push names p.text)) (Contains-push_cases seen p q c);
      }))

pub once_none : (s : Namespace) (names : List (List ℕ)) (out : List Pair) → names ≡ [] → out ≡ [] → AreOnePerName s [] names out
unfolding IsDistinct
once_none s names out n o = subst (λ l. AreOnePerName s [] l out) (sym n) (subst (λ l. AreOnePerName s [] [] l) (sym o) (record {
  names_are = refl;
  distinct = tt;
  sound = λ q c. absurd (none_in q c);
  complete = λ q c e. absurd (none_in q c);
}))

module _ (s : Namespace) (given out sorted : List Pair) (once : AreOnePerName s given (map (λ (p : Pair). p.text) out) out) (moved : IsPermutation out sorted) where
  pub row_exact : HaveOneEntity given → (x : List ℕ) (e : Entity) → Contains (map exported_of sorted) (record { name = x; entity = e }) ↔ IsBound given s x e
  row_exact one x e = (there, back)
    where
      there : Contains (map exported_of sorted) (record { name = x; entity = e }) → IsBound given s x e
      there c = let (p, (k, is)) = (mapped exported_of sorted (record { name = x; entity = e })).0 c in
          let h = once.sound p (Contains-permutation sorted out p (IsPermutation-sym out sorted moved) k) in
          (p, (h.0, (h.1, (sym (ap (λ z. z.name) is), sym (ap (λ z. z.entity) is)))))

      back : IsBound given s x e → Contains (map exported_of sorted) (record { name = x; entity = e })
      back (p, (c, (space, (text, entity)))) =
          let (q, (k, is)) = (mapped (λ (z : Pair). z.text) out p.text).0 (once.complete p c space) in
          let h = once.sound q k in
          let same : q.entity ≡ p.entity = one q p h.0 c (h.1 ∙ sym space) (sym is) in
          (mapped exported_of sorted (record { name = x; entity = e })).1 (q, (Contains-permutation out sorted q moved k, λ i. record { name = (sym text ∙ is) i; entity = (sym entity ∙ sym same) i }))

  pub row_ordered : IsSortedBy (λ x y. is_lt (slice_cmp nat_cmp x.text y.text)) sorted → AreOrdered (map (λ (p : Pair). p.text) sorted)
  row_ordered up = ordered_from_sort_by_key (λ (p : Pair). p.text) sorted up (IsDistinct-IsPermutation bytes_eq nat_list_eq_equiv.symm (map (λ (p : Pair). p.text) out) (map (λ (p : Pair). p.text) sorted) (IsPermutation-map (λ (p : Pair). p.text) out sorted moved) once.distinct)

pub names_of_row : (ps : List Pair) → map (λ (r : Exported). r.name) (map exported_of ps) ≡ map (λ (p : Pair). p.text) ps
names_of_row [] = refl
names_of_row (p ∷ ps) = ap (λ l. p.text ∷ l) (names_of_row ps)
