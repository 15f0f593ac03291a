-- Spaces in place of a definition move nothing.
use Rattle.std.proofs.Common.{◌≡◌, ◌∙◌, ℕ, ◌+◌, ◌≤◌, Bool, true, false, List, [], ◌∷◌, ◌++◌, length, map, take, drop, get_or, refl, sym, ap, append_assoc, append-nil, arith}
use Rattle.std.specs.Prelude.{slice_range, if◌then◌else◌}
use Rattle.std.proofs.lemmas.List.{map-append, take-append-drop, take-map}
use Rattle.std.proofs.lemmas.List.Folds.{drop_split}
use Rattle.hm_lex.specs.declared.token.Place.{Place}
use Rattle.hm_lex.specs.Cut.{is_line_end, place_after}
use Rattle.hm_lex.specs.Scan.{place_step}
use Rattle.hm_lex.proofs.Places.{place_after_push}
use Rattle.hm_messages_changes.specs.Blanks.{SpacesMoveNothing, blank, blanked}
use Rattle.hm_messages_changes.specs.declared.data.Other.{Other}

ends_cases : (b : ℕ) (answer : Bool) → is_line_end b ≡ answer → is_line_end (if answer then b else 32) ≡ answer
ends_cases b true e = e
ends_cases b false e = refl

-- a space ends a line exactly if the byte does in place of which it is put
blank_ends : (b : ℕ) → is_line_end (blank b) ≡ is_line_end b
blank_ends b = ends_cases b (is_line_end b) refl

blanks_end : (bs : List ℕ) → map is_line_end (map blank bs) ≡ map is_line_end bs
blanks_end [] = refl
blanks_end (b ∷ bs) = ap (λ (t : Bool). t ∷ map is_line_end (map blank bs)) (blank_ends b) ∙ ap (λ (l : List Bool). is_line_end b ∷ l) (blanks_end bs)

step_same : (p : Place) (a b : ℕ) → is_line_end a ≡ is_line_end b → place_step p a ≡ place_step p b
step_same p a b e = ap (λ (t : Bool). if t then record { line = p.line + 1; column = 1 } else record { line = p.line; column = p.column + 1 }) e

-- bytes that end lines alike, after bytes that lead to one place
places_from : (before later xs ys : List ℕ) → place_after before ≡ place_after later → map is_line_end xs ≡ map is_line_end ys → place_after (before ++ xs) ≡ place_after (later ++ ys)
places_from before later [] [] same e = ap place_after (append-nil before) ∙ (same ∙ ap place_after (sym (append-nil later)))
places_from before later [] (y ∷ ys) same e = absurd (omega (arith, ap length e))
places_from before later (x ∷ xs) [] same e = absurd (omega (arith, ap length e))
places_from before later (x ∷ xs) (y ∷ ys) same e =
    let pushed : place_after (before ++ x ∷ []) ≡ place_after (later ++ y ∷ [])
    = place_after_push before x ∙ (ap (λ (p : Place). place_step p x) same ∙ (step_same (place_after later) x y (ap (λ (l : List Bool). get_or l 0 true) e) ∙ sym (place_after_push later y))) in
    ap place_after (sym (append_assoc before (x ∷ []) xs)) ∙ (places_from (before ++ x ∷ []) (later ++ y ∷ []) xs ys pushed (ap (drop 1) e) ∙ ap place_after (append_assoc later (y ∷ []) ys))

whole : (source : List ℕ) (from to : ℕ) → from ≤ to → take from source ++ (slice_range source from to ++ drop to source) ≡ source
whole source from to ordered = ap (λ (l : List ℕ). take from source ++ l) (sym (drop_split source from to ordered)) ∙ take-append-drop from source

blanked_ends : (source : List ℕ) (d : Other) → d.from ≤ d.to → map is_line_end (blanked source d) ≡ map is_line_end source
blanked_ends source d ordered =
    let front = take d.from source in
    let inner = slice_range source d.from d.to in
    let rest = drop d.to source in
    map-append is_line_end front (map blank inner ++ rest)
    ∙ (ap (λ (l : List Bool). map is_line_end front ++ l) (map-append is_line_end (map blank inner) rest ∙ (ap (λ (l : List Bool). l ++ map is_line_end rest) (blanks_end inner) ∙ sym (map-append is_line_end inner rest)))
    ∙ (sym (map-append is_line_end front (inner ++ rest)) ∙ ap (map is_line_end) (whole source d.from d.to ordered)))

pub spaces_move_nothing : SpacesMoveNothing
spaces_move_nothing source d n ordered =
    places_from [] [] (take n (blanked source d)) (take n source) refl
    (sym (take-map is_line_end n (blanked source d)) ∙ (ap (take n) (blanked_ends source d ordered) ∙ take-map is_line_end n source))
