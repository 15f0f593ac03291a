-- Names in a set, and imports gathered one after another.
use Rattle.std.proofs.Common.{◌≡◌, ℕ, ◌+◌, ◌<◌, Bool, true, false, cond, not, ◌||◌, List, [], ◌∷◌, ◌++◌, filter, length, map, take, get_or, refl, sym, ap, ap₂, ◌∙◌, append_assoc, append-nil, inl, inr}
use Rattle.std.proofs.lemmas.Bool.{cases_Bool}
use Rattle.std.proofs.lemmas.List.{map-append, take_more}
use Rattle.std.proofs.lemmas.List.Elements.{filter-append}
use Rattle.std.proofs.lemmas.Slice.Eq.{bytes_eq-Decides}
use Rattle.hm_names.specs.Texts.{is_text_among, same_text}
use Rattle.hm_run_sources.specs.declared.located.Located.{Located}
use Rattle.hm_messages.specs.Missing.{SetImport, names_none, set_import, set_imports}

or_false : (b : Bool) → (b || false) ≡ b
or_false true = refl
or_false false = refl

or_true : (b : Bool) → (b || true) ≡ true
or_true true = refl
or_true false = refl

or_assoc : (a b c : Bool) → (a || (b || c)) ≡ ((a || b) || c)
or_assoc true b c = refl
or_assoc false b c = refl

among_last : (x t : List ℕ) (ts : List (List ℕ)) → is_text_among x (ts ++ t ∷ []) ≡ (is_text_among x ts || same_text x t)
among_last x t [] = or_false (same_text x t)
among_last x t (y ∷ ys) = ap (λ b. same_text x y || b) (among_last x t ys) ∙ or_assoc (same_text x y) (is_text_among x ys) (same_text x t)

-- a text that is put into a set
pub inserted : (set new ts : List (List ℕ)) (t x : List ℕ) → new ≡ cond (is_text_among t set) set (set ++ t ∷ []) → is_text_among x set ≡ is_text_among x ts → is_text_among x new ≡ is_text_among x (ts ++ t ∷ [])
inserted set new ts t x e h = elim (cases_Bool (is_text_among t set)) [
  | inl there ↦
      let same : new ≡ set = e ∙ ap (λ b. cond b set (set ++ t ∷ [])) there in
      ap (is_text_among x) same ∙ (h ∙ (old there ∙ sym (among_last x t ts)))
  | inr gone ↦
      ap (is_text_among x) (e ∙ ap (λ b. cond b set (set ++ t ∷ [])) gone) ∙ (among_last x t set ∙ (ap (λ b. b || same_text x t) h ∙ sym (among_last x t ts)))
]
  where
    old : is_text_among t set ≡ true → is_text_among x ts ≡ (is_text_among x ts || same_text x t)
    old there = elim (cases_Bool (same_text x t)) [
      | inl is ↦
          let equal : x ≡ t = (bytes_eq-Decides x t).0 is in
          let known : is_text_among x ts ≡ true = sym h ∙ (ap (λ z. is_text_among z set) equal ∙ there) in
          known ∙ sym (ap (λ b. is_text_among x ts || b) is ∙ or_true (is_text_among x ts))
      | inr isnt ↦ sym (ap (λ b. is_text_among x ts || b) isnt ∙ or_false (is_text_among x ts))
    ]

pub take_last : {X : Type 0} (xs : List X) (i : ℕ) (x : X) → i < length xs → x ≡ get_or xs i x → take (i + 1) xs ≡ take i xs ++ x ∷ []
take_last xs i x within is = take_more xs i x within ∙ ap (λ z. take i xs ++ z ∷ []) (sym is)

-- the step of a loop that puts names into a set
pub named_more : (first : List ℕ) (ls : List Located) (i : ℕ) (l : Located) (set new : List (List ℕ)) (x : List ℕ) → i < length ls → l ≡ get_or ls i l → new ≡ cond (is_text_among l.header.name.text set) set (set ++ l.header.name.text ∷ [])
    → is_text_among x set ≡ is_text_among x (first ∷ map (λ (h : Located). h.header.name.text) (take i ls)) → is_text_among x new ≡ is_text_among x (first ∷ map (λ (h : Located). h.header.name.text) (take (i + 1) ls))
named_more first ls i l set new x within is put before =
    inserted set new (first ∷ map (λ (h : Located). h.header.name.text) (take i ls)) l.header.name.text x put before
    ∙ ap (λ (ns : List (List ℕ)). is_text_among x (first ∷ ns)) (sym (ap (map (λ (h : Located). h.header.name.text)) (take_last ls i l within is) ∙ map-append (λ (h : Located). h.header.name.text) (take i ls) (l ∷ [])))

-- the steps of a loop that filters
module _ {X Y : Type 0} (p : Y → Bool) (g : X → Y) (xs : List X) (i : ℕ) (x : X) (within : i < length xs) (is : x ≡ get_or xs i x) where
  split : filter p (map g (take (i + 1) xs)) ≡ filter p (map g (take i xs)) ++ filter p (g x ∷ [])
  split = ap (λ (l : List X). filter p (map g l)) (take_last xs i x within is) ∙ (ap (filter p) (map-append g (take i xs) (x ∷ [])) ∙ filter-append p (map g (take i xs)) (g x ∷ []))

  pub kept : (old base : List Y) → old ≡ base ++ filter p (map g (take i xs)) → p (g x) ≡ true → old ++ g x ∷ [] ≡ base ++ filter p (map g (take (i + 1) xs))
  kept old base e passes =
      ap (λ (l : List Y). l ++ g x ∷ []) e ∙ (append_assoc base (filter p (map g (take i xs))) (g x ∷ [])
      ∙ ap (λ (l : List Y). base ++ l) (sym (split ∙ ap (λ b. filter p (map g (take i xs)) ++ cond b (g x ∷ []) []) passes)))

  pub passed : (old base : List Y) → old ≡ base ++ filter p (map g (take i xs)) → p (g x) ≡ false → old ≡ base ++ filter p (map g (take (i + 1) xs))
  passed old base e fails =
      e ∙ ap (λ (l : List Y). base ++ l) (sym (split ∙ (ap (λ b. filter p (map g (take i xs)) ++ cond b (g x ∷ []) []) fails ∙ append-nil (filter p (map g (take i xs))))))

imports_of_both : (xs ys : List Located) → set_imports (xs ++ ys) ≡ set_imports xs ++ set_imports ys
imports_of_both [] ys = refl
imports_of_both (x ∷ xs) ys = ap (λ l. map (set_import x.source) x.header.imports ++ l) (imports_of_both xs ys) ∙ sym (append_assoc (map (set_import x.source) x.header.imports) (set_imports xs) (set_imports ys))

-- the step of a loop over modules
pub gathered : (names : List (List ℕ)) (ls : List Located) (i : ℕ) (l : Located) (old new : List SetImport) → i < length ls → l ≡ get_or ls i l → old ≡ filter (names_none names) (set_imports (take i ls))
    → new ≡ old ++ filter (names_none names) (map (set_import l.source) l.header.imports) → new ≡ filter (names_none names) (set_imports (take (i + 1) ls))
gathered names ls i l old new within is before more =
    more ∙ (ap (λ (k : List SetImport). k ++ filter (names_none names) (map (set_import l.source) l.header.imports)) before
    ∙ sym (ap (λ (k : List Located). filter (names_none names) (set_imports k)) (take_last ls i l within is)
    ∙ (ap (filter (names_none names)) (imports_of_both (take i ls) (l ∷ []) ∙ ap (λ k. set_imports (take i ls) ++ k) (append-nil (map (set_import l.source) l.header.imports)))
    ∙ filter-append (names_none names) (set_imports (take i ls)) (map (set_import l.source) l.header.imports))))

-- only which names are known counts
pub filtered_same : (names others : List (List ℕ)) (is : List SetImport) → ((x : List ℕ) → is_text_among x names ≡ is_text_among x others) → filter (names_none names) is ≡ filter (names_none others) is
filtered_same names others [] h = refl
filtered_same names others (i ∷ is) h =
    ap₂ (λ b (l : List SetImport). cond b (i ∷ l) l) (ap not (h i.name)) (filtered_same names others is h)
