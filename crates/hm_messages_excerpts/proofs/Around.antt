-- The line of a spot, round its place.
use Rattle.std.proofs.Common.{◌≡◌, ℕ, ◌+◌, ◌-◌, ◌<◌, ◌≤◌, false, List, ◌++◌, length, take, drop, get_or, refl, sym, ap, subst, ◌∙◌, arith, append_assoc}
use Rattle.std.proofs.lemmas.List.{take-append-drop, length-take-le, length-drop, get_or-drop, drop_at, take_at, take-take, drop-take, drop-drop}
use Rattle.std.proofs.lemmas.List.Elements.{All-take, All-drop}
use Rattle.hm_lex.specs.declared.token.Place.{Place}
use Rattle.hm_lex.specs.Cut.{is_line_end, place_after}
use Rattle.hm_lex.proofs.Places.{place, place_same}
use Rattle.hm_messages_excerpts.specs.Excerpts.{IsLineAround}
use Rattle.hm_messages_excerpts.specs.Lines.{IsSpotOf, IsWithout}
use Rattle.hm_messages_excerpts.specs.declared.lines.Spot.{Spot}
use Rattle.hm_messages_excerpts.proofs.Places.{place_along_line}

plain_left : (xs ys : List ℕ) → IsWithout is_line_end (xs ++ ys) → IsWithout is_line_end xs
plain_left xs ys h = subst (IsWithout is_line_end) (take_at xs ys (length xs) refl) (All-take (λ b. is_line_end b ≡ false) (length xs) (xs ++ ys) h)

plain_right : (xs ys : List ℕ) → IsWithout is_line_end (xs ++ ys) → IsWithout is_line_end ys
plain_right xs ys h = subst (IsWithout is_line_end) (drop_at xs ys (length xs) refl) (All-drop (λ b. is_line_end b ≡ false) (length xs) (xs ++ ys) h)

-- a source in its parts: before the line, of the line before and behind the place, and behind the line
pub line_in : (source start_text front back rest : List ℕ) (p : Place) (number : ℕ) → source ≡ start_text ++ ((front ++ back) ++ rest)
    → (place_after start_text).line ≡ number + 1 → (place_after start_text).column ≡ 1 → IsWithout is_line_end (front ++ back) → (0 < length rest → get_or rest 0 0 ≡ 10)
    → p ≡ place (number + 1) (length front + 1) → IsLineAround source p front back
line_in source start_text front back rest p number whole line column plain ends here = record {
  before = start_text;
  after = rest;
  whole = whole ∙ ap (λ (l : List ℕ). start_text ++ l) (append_assoc front back rest);
  placed = here ∙ sym (place_along_line start_text front number line column (plain_left front back plain));
  begins = column;
  ends = ends;
  front_plain = plain_left front back plain;
  back_plain = plain_right front back plain;
}

-- the text of a spot's line
abbrev pub line_text : List ℕ → Spot → List ℕ
line_text source spot = take (spot.end - spot.start) (drop spot.start source)

-- the same from what the code knows
pub line_of : (source : List ℕ) (p : Place) (spot : Spot) → IsSpotOf source p spot → IsLineAround source p (take spot.offset (line_text source spot)) (drop spot.offset (line_text source spot))
line_of source p spot is =
    let len : ℕ = spot.end - spot.start in
    let text : List ℕ = take len (drop spot.start source) in
    let rest : List ℕ = drop len (drop spot.start source) in
    let front : List ℕ = take spot.offset text in
    let back : List ℕ = drop spot.offset text in
    let at = is.line in
    let long : length text ≡ len = length-take-le len (drop spot.start source) (omega (arith, length-drop spot.start source, at.within)) in
    let size : length front ≡ spot.offset = length-take-le spot.offset text (omega (arith, long, is.within)) in
    let both : front ++ back ≡ text = take-append-drop spot.offset text in
    let end : ℕ = spot.start + (len + 0) in
    let end_is : end ≡ spot.end = omega (arith, at.ordered) in
    line_in source (take spot.start source) front back rest p is.number
    (sym (take-append-drop spot.start source) ∙ ap (λ (l : List ℕ). take spot.start source ++ l) (sym (take-append-drop len (drop spot.start source)) ∙ ap (λ (l : List ℕ). l ++ rest) (sym both)))
    at.line at.column (subst (IsWithout is_line_end) (sym both) at.plain)
    (λ more. get_or-drop len (drop spot.start source) 0 0 ∙ get_or-drop spot.start source (len + 0) 0
    ∙ subst (λ (k : ℕ). get_or source k 0 ≡ 10) (sym end_is) (at.ends (omega (arith, more, length-drop len (drop spot.start source), length-drop spot.start source, at.ordered))))
    (place_same p.line (is.number + 1) p.column (length front + 1) is.line_is (is.column_is ∙ ap (λ (n : ℕ). n + 1) (sym size)))

pub front_long : (source : List ℕ) (p : Place) (spot : Spot) → IsSpotOf source p spot → length (take spot.offset (line_text source spot)) ≡ spot.offset
front_long source p spot is =
    let len : ℕ = spot.end - spot.start in
    let long : length (line_text source spot) ≡ len = length-take-le len (drop spot.start source) (omega (arith, length-drop spot.start source, is.line.within)) in
    length-take-le spot.offset (line_text source spot) (omega (arith, long, is.within))

pub front_same : (source : List ℕ) (p : Place) (spot : Spot) → IsSpotOf source p spot → take spot.offset (drop spot.start source) ≡ take spot.offset (line_text source spot)
front_same source p spot is = sym (take-take spot.offset (spot.end - spot.start) (drop spot.start source) is.within)

pub back_same : (source : List ℕ) (p : Place) (spot : Spot) → IsSpotOf source p spot
    → take (spot.end - (spot.start + spot.offset)) (drop (spot.start + spot.offset) source) ≡ drop spot.offset (line_text source spot)
back_same source p spot is =
    let left : ℕ = spot.end - (spot.start + spot.offset) in
    let sum : spot.offset + left ≡ spot.end - spot.start = omega (arith, is.within, is.line.ordered) in
    ap (λ (l : List ℕ). take left l) (sym (drop-drop spot.offset spot.start source))
    ∙ sym (drop-take spot.offset left (drop spot.start source))
    ∙ ap (λ (n : ℕ). drop spot.offset (take n (drop spot.start source))) sum

-- the spot so many bytes further on, on the same line
pub spot_along : (source : List ℕ) (p : Place) (spot : Spot) (n : ℕ) → IsSpotOf source p spot → n ≤ spot.end - (spot.start + spot.offset)
    → IsSpotOf source (place p.line (p.column + n)) (record { start = spot.start; end = spot.end; offset = spot.offset + n })
spot_along source p spot n is low = record {
  number = is.number;
  line = is.line;
  line_is = is.line_is;
  column_is = omega (arith, is.column_is);
  within = omega (arith, low, is.within, is.line.ordered);
}
