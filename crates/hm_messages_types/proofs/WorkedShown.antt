-- The worked types as they are shown.
use Rattle.std.proofs.Common.{◌≡◌, ◌∙◌, ◌⊎◌, inl, inr, ℕ, suc, ◌≤◌, ◌&&◌, All, append_assoc, List, [], ◌∷◌, ◌++◌, Contains, length, get_or, refl, sym, ap, ap₂, subst, arith, false, true}
use Rattle.std.specs.Prelude.{codes, flat_map}
use Rattle.std.proofs.lemmas.Bool.{false≢true}
use Rattle.std.proofs.lemmas.List.{length-append}
use Rattle.std.proofs.lemmas.List.Elements.{All-contains, All-cons}
use Rattle.hm_lex.specs.Bytes.{class_of}
use Rattle.hm_types.specs.Synonyms.{TypeSynonym}
use Rattle.hm_types.specs.declared.entries.SynonymEntry.{SynonymEntry}
use Rattle.hm_types_display.specs.Texts.{scheme_text_of}
use Rattle.hm_messages_types.specs.Shown.{AreWhole, IsAlias, IsFolded, IsPiece, NamedType, ends_name, is_bracketed, starts_name}
use Rattle.hm_messages_types.specs.WorkedShown.{AliasRow, FoldedRow, WholeNamesRow, bare, pair, pos, unit}

none : {X : Type 0} (P : X → Type 0) → All P []
none P k d l = absurd (omega (arith, l))

abbrev as_it_is : List ℕ → NamedType
as_it_is text = record { name = text; text = text }

-- "no name goes on", where the pieces and what follows are given
whole_twice : AreWhole (pos ∷ as_it_is (codes " -> ") ∷ pos ∷ [])
unfolding class_of
whole_twice = (refl, (refl, (refl, tt)))

whole_inside : AreWhole (as_it_is (codes "[") ∷ pos ∷ as_it_is (codes "]") ∷ [])
unfolding class_of
whole_inside = (refl, (refl, (refl, tt)))

here : IsPiece (pos ∷ []) pos
here = inr (0, omega arith, refl)

twice : IsFolded (pos ∷ []) (codes "((), ()) -> ((), ())") (codes "Pos -> Pos")
twice = record {
  pieces = pos ∷ as_it_is (codes " -> ") ∷ pos ∷ [];
  each = All-cons (IsPiece (pos ∷ [])) pos (as_it_is (codes " -> ") ∷ pos ∷ []) here
      (All-cons (IsPiece (pos ∷ [])) (as_it_is (codes " -> ")) (pos ∷ []) (inl refl) (All-cons (IsPiece (pos ∷ [])) pos [] here (none (IsPiece (pos ∷ [])))));
  whole = whole_twice;
  text_is = refl;
  shown_is = refl;
}

inside : IsFolded (pos ∷ []) (codes "[((), ())]") (codes "[Pos]")
inside = record {
  pieces = as_it_is (codes "[") ∷ pos ∷ as_it_is (codes "]") ∷ [];
  each = All-cons (IsPiece (pos ∷ [])) (as_it_is (codes "[")) (pos ∷ as_it_is (codes "]") ∷ []) (inl refl)
      (All-cons (IsPiece (pos ∷ [])) pos (as_it_is (codes "]") ∷ []) here (All-cons (IsPiece (pos ∷ [])) (as_it_is (codes "]")) [] (inl refl) (none (IsPiece (pos ∷ [])))));
  whole = whole_inside;
  text_is = refl;
  shown_is = refl;
}

-- what is shown is the text, or Pos is in it and the text has eight characters or more
abbrev IsPlainOrLong : List ℕ → List ℕ → Type 0
IsPlainOrLong text shown = (shown ≡ text) ⊎ (8 ≤ length text)

only : (p : NamedType) → Contains (pos ∷ []) p → p ≡ pos
only p there = All-contains (λ (q : NamedType). q ≡ pos) (pos ∷ []) p (All-cons (λ (q : NamedType). q ≡ pos) pos [] refl (none (λ (q : NamedType). q ≡ pos))) there

piece_plain : (p : NamedType) → IsPiece (pos ∷ []) p → IsPlainOrLong p.text p.name
piece_plain p (inl same) = inl same
piece_plain p (inr there) = inr (subst (λ (q : NamedType). 8 ≤ length q.text) (sym (only p there)) (omega arith))

joined : (t u s v : List ℕ) → IsPlainOrLong t s → IsPlainOrLong u v → IsPlainOrLong (t ++ u) (s ++ v)
joined t u s v (inl a) (inl b) = inl (ap₂ (λ (x y : List ℕ). x ++ y) a b)
joined t u s v (inl a) (inr b) = inr (omega (arith, b, length-append t u))
joined t u s v (inr a) h = inr (omega (arith, a, length-append t u))

pieces_plain : (ps : List NamedType) → All (IsPiece (pos ∷ [])) ps → IsPlainOrLong (flat_map (λ p. p.text) ps) (flat_map (λ p. p.name) ps)
pieces_plain [] h = inl refl
pieces_plain (p ∷ ps) h =
    joined p.text (flat_map (λ (q : NamedType). q.text) ps) p.name (flat_map (λ (q : NamedType). q.name) ps) (piece_plain p (h 0 p (omega arith))) (pieces_plain ps (λ k d l. h (suc k) d (omega (arith, l))))

not_plain : (text shown : List ℕ) → text ≡ codes "[()]" → shown ≡ codes "[Pos]" → ¬ (IsPlainOrLong text shown)
not_plain text shown is so (inl same) = let lengths : length (codes "[Pos]") ≡ length (codes "[()]") = ap length (sym so ∙ (same ∙ is)) in absurd (omega (arith, lengths))
not_plain text shown is so (inr long) = let short : length text ≡ 4 = ap length is in absurd (omega (arith, short, long))

pub worked_folded : FoldedRow
worked_folded = record {
  twice = twice;
  inside = inside;
  other = λ f. not_plain _ _ (sym f.text_is) (sym f.shown_is) (pieces_plain f.pieces f.each);
}

there : IsPiece (bare ∷ []) bare
there = inr (0, omega arith, refl)

-- A for the first M.A, and the rest as it is
whole_name : IsFolded (bare ∷ []) (codes "M.A -> [M.AB]") (codes "A -> [M.AB]")
unfolding class_of
whole_name = record {
  pieces = bare ∷ as_it_is (codes " -> [M.AB]") ∷ [];
  each = All-cons (IsPiece (bare ∷ [])) bare (as_it_is (codes " -> [M.AB]") ∷ []) there
      (All-cons (IsPiece (bare ∷ [])) (as_it_is (codes " -> [M.AB]")) [] (inl refl) (none (IsPiece (bare ∷ []))));
  whole = (refl, (refl, tt));
  text_is = refl;
  shown_is = refl;
}

-- M.A is in the text, and no name goes on behind it
record HasWholeName (text : List ℕ) : Type 0 where
  before : List ℕ
  after : List ℕ
  text_is : text ≡ before ++ (codes "M.A" ++ after)
  ends : starts_name after ≡ false

only_bare : (p : NamedType) → Contains (bare ∷ []) p → p ≡ bare
only_bare p found = All-contains (λ (q : NamedType). q ≡ bare) (bare ∷ []) p (All-cons (λ (q : NamedType). q ≡ bare) bare [] refl (none (λ (q : NamedType). q ≡ bare))) found

-- without such a name all is shown as it is
whole_or_plain : (ps : List NamedType) → All (IsPiece (bare ∷ [])) ps → AreWhole ps
    → (flat_map (λ p. p.name) ps ≡ flat_map (λ p. p.text) ps) ⊎ HasWholeName (flat_map (λ p. p.text) ps)
unfolding class_of
whole_or_plain [] h w = inl refl
whole_or_plain (p ∷ ps) h w = at (h 0 p (omega arith)) (whole_or_plain ps (λ k d l. h (suc k) d (omega (arith, l))) w.1)
  where
    names : List ℕ
    names = flat_map (λ (q : NamedType). q.name) ps

    texts : List ℕ
    texts = flat_map (λ (q : NamedType). q.text) ps

    at : IsPiece (bare ∷ []) p → (names ≡ texts) ⊎ HasWholeName texts → (p.name ++ names ≡ p.text ++ texts) ⊎ HasWholeName (p.text ++ texts)
    at (inl same) (inl so) = inl (ap₂ (λ (x y : List ℕ). x ++ y) same so)
    at (inl same) (inr found) = inr (record {
      before = p.text ++ found.before;
      after = found.after;
      text_is = ap (λ (l : List ℕ). p.text ++ l) found.text_is ∙ sym (append_assoc p.text found.before (codes "M.A" ++ found.after));
      ends = found.ends;
    })
    at (inr named) rest =
        let is : p ≡ bare = only_bare p named in
        inr (record {
          before = [];
          after = texts;
          text_is = ap (λ (q : NamedType). q.text ++ texts) is;
          ends = subst (λ (q : NamedType). (ends_name q.text && starts_name texts) ≡ false) is w.0;
        })

-- M.AB has no such name
no_whole_name : (before after : List ℕ) → codes "M.AB" ≡ before ++ (codes "M.A" ++ after) → starts_name after ≡ false → ⊥
unfolding class_of
no_whole_name [] [] is ends = let lengths : length (codes "M.AB") ≡ length (codes "M.A") = ap length is in absurd (omega (arith, lengths))
no_whole_name [] (b ∷ bs) is ends =
    let first : 66 ≡ b = ap (λ (l : List ℕ). get_or l 3 0) is in
    let clash : false ≡ true = sym ends ∙ ap (λ (c : ℕ). starts_name (c ∷ bs)) (sym first) in
    false≢true clash
no_whole_name (b ∷ []) after is ends = let second : 46 ≡ 77 = ap (λ (l : List ℕ). get_or l 1 0) is in absurd (omega (arith, second))
no_whole_name (b ∷ c ∷ bs) after is ends =
    let all : length (codes "M.AB") ≡ length ((b ∷ c ∷ bs) ++ (codes "M.A" ++ after)) = ap length is in
    absurd (omega (arith, all, length-append (b ∷ c ∷ bs) (codes "M.A" ++ after), length-append (codes "M.A") after))

not_cut : (text shown : List ℕ) → text ≡ codes "M.AB" → shown ≡ codes "AB" → (shown ≡ text) ⊎ HasWholeName text → ⊥
not_cut text shown is so (inl same) = let lengths : length (codes "AB") ≡ length (codes "M.AB") = ap length (sym so ∙ (same ∙ is)) in absurd (omega (arith, lengths))
not_cut text shown is so (inr found) = no_whole_name found.before found.after (sym is ∙ found.text_is) found.ends

pub worked_whole_names : WholeNamesRow
worked_whole_names = record { whole = whole_name; cut = λ f. not_cut _ _ (sym f.text_is) (sym f.shown_is) (whole_or_plain f.pieces f.each f.whole) }

own : (e : SynonymEntry) → e.name ≡ codes "Pos" → e.entity.«module» ≡ codes "A" → e.entity.name ≡ codes "Pos" → e.synonym ≡ record { parameters = 0; body = pair } → IsAlias (codes "A") e pos
own e named home name synonym = record {
  named = named;
  declared = home;
  own = name;
  closed = ap (λ (s : TypeSynonym). s.parameters) synonym;
  bracketed = ap (λ (s : TypeSynonym). is_bracketed s.body) synonym;
  text_is = sym (ap (λ (s : TypeSynonym). scheme_text_of (record { vars = 0; body = s.body })) synonym);
}

not_applied : (e : SynonymEntry) (n : NamedType) → e.synonym.parameters ≡ 1 → ¬ (IsAlias (codes "A") e n)
not_applied e n one a = let other : 1 ≡ 0 = sym one ∙ a.closed in absurd (omega (arith, other))

not_imported : (e : SynonymEntry) (n : NamedType) → e.entity.«module» ≡ codes "B" → ¬ (IsAlias (codes "A") e n)
not_imported e n there a =
    let other : 66 ≡ 65 = ap (λ (l : List ℕ). get_or l 0 0) (sym there ∙ a.declared) in
    absurd (omega (arith, other))

not_bare : (e : SynonymEntry) (n : NamedType) → e.synonym ≡ record { parameters = 0; body = unit } → ¬ (IsAlias (codes "A") e n)
not_bare e n is a = let clash : false ≡ true = sym (ap (λ (s : TypeSynonym). is_bracketed s.body) is) ∙ a.bracketed in false≢true clash

pub worked_aliases : AliasRow
worked_aliases = record { own = own; applied = not_applied; imported = not_imported; bare = not_bare }
