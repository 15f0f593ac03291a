-- Texts with names for pieces.
use Rattle.std.proofs.Common.{◌≡◌, ◌∙◌, inl, inr, ℕ, zero, suc, ◌+◌, ◌<◌, ◌≤◌, ◌&&◌, All, Bool, true, false, cond, List, [], ◌∷◌, ◌++◌, drop, length, map, max, min, take, get_or, append_assoc, append-nil, arith, ap, sym, refl, subst}
use Rattle.std.specs.Prelude.{Contains, flat_map}
use Rattle.std.specs.List.{prefix_len}
use Rattle.std.proofs.lemmas.List.{get_or-map, length-map, length-take-le}
use Rattle.std.proofs.lemmas.List.Concat.{flat_map-append}
use Rattle.std.proofs.lemmas.List.Elements.{All-append, All-cons}
use Rattle.std.proofs.lemmas.List.Sums.{prefix_len-le-length}
use Rattle.hm_lex.specs.Bytes.{is_name_byte}
use Rattle.hm_messages_types.specs.Aliases.{alias_of}
use Rattle.hm_messages_types.specs.Letters.{IsLettered, IsOneWord, IsWord}
use Rattle.hm_messages_types.specs.Shown.{AreWhole, IsFolded, IsPiece, NamedType, ends_name, starts_name}
use Rattle.hm_messages_types.specs.declared.shown.Alias.{Alias}

-- no name is cut between two of these pieces, or between the last one and the rest
abbrev pub AreWholeTo : List ℕ → List NamedType → Type 0
AreWholeTo rest [] = Unit {0}
AreWholeTo rest (p ∷ ps) = ((ends_name p.text && starts_name (flat_map (λ q. q.text) ps ++ rest)) ≡ false) × AreWholeTo rest ps

-- the pieces of a text up to a rest, and what is shown of them
pub record IsShownTo (P : NamedType → Type 0) (text rest shown : List ℕ) : Type 0 where
  pub pieces : List NamedType
  pub each : All P pieces
  pub whole : AreWholeTo rest pieces
  pub text_is : text ≡ flat_map (λ p. p.text) pieces ++ rest
  pub shown_is : shown ≡ flat_map (λ p. p.name) pieces

abbrev pub IsFoldedTo : List NamedType → List ℕ → List ℕ → List ℕ → Type 0
IsFoldedTo names text rest shown = IsShownTo (IsPiece names) text rest shown

-- the pieces of letters and other words
abbrev pub IsLetteredTo : List NamedType → List ℕ → List ℕ → List ℕ → Type 0
IsLetteredTo letters text rest shown = IsShownTo (IsWord letters) text rest shown

none : {X : Type 0} (P : X → Type 0) → All P []
none P k d l = absurd (omega (arith, l))

pub one : {X : Type 0} (P : X → Type 0) (x : X) → P x → All P (x ∷ [])
one P x h zero d l = h
one P x h (suc k) d l = absurd (omega (arith, l))

pub all_so : {X : Type 0} (P Q : X → Type 0) → ((x : X) → P x → Q x) → (xs : List X) → All P xs → All Q xs
all_so P Q f xs h k d l = f (get_or xs k d) (h k d l)

-- one more piece
piece_more : (f : NamedType → List ℕ) (ps : List NamedType) (p : NamedType) → flat_map f (ps ++ p ∷ []) ≡ flat_map f ps ++ f p
piece_more f ps p = flat_map-append f ps (p ∷ []) ∙ ap (λ (l : List ℕ). flat_map f ps ++ l) (append-nil (f p))

pub and_no : (b : Bool) (c : Bool) → c ≡ false → (b && c) ≡ false
and_no true c e = e
and_no false c e = refl

-- one more piece, after which no name goes on
whole_more : (ps : List NamedType) (rest after : List ℕ) (p : NamedType) → rest ≡ p.text ++ after → (ends_name p.text && starts_name after) ≡ false → AreWholeTo rest ps → AreWholeTo after (ps ++ p ∷ [])
whole_more [] rest after p split end h = (end, tt)
whole_more (q ∷ qs) rest after p split end h =
    let before : List ℕ = flat_map (λ (r : NamedType). r.text) qs in (
      subst (λ (l : List ℕ). (ends_name q.text && starts_name l) ≡ false)
          (ap (λ (l : List ℕ). before ++ l) split ∙ (sym (append_assoc before p.text after) ∙ ap (λ (l : List ℕ). l ++ after) (sym (piece_more (λ (r : NamedType). r.text) qs p)))) h.0,
      whole_more qs rest after p split end h.1,
    )

whole_all : (ps : List NamedType) (rest : List ℕ) → rest ≡ [] → AreWholeTo rest ps → AreWhole ps
whole_all [] rest e h = tt
whole_all (q ∷ qs) rest e h =
    let after : List ℕ = flat_map (λ (r : NamedType). r.text) qs in
    (subst (λ (l : List ℕ). (ends_name q.text && starts_name l) ≡ false) (ap (λ (l : List ℕ). after ++ l) e ∙ append-nil after) h.0, whole_all qs rest e h.1)

-- after all bytes of names at the beginning there is none
run_ends : (l : List ℕ) → starts_name (drop (prefix_len is_name_byte l) l) ≡ false
run_ends [] = refl
run_ends (b ∷ bs) = at (is_name_byte b) refl (run_ends bs)
  where
    at : (x : Bool) → is_name_byte b ≡ x → starts_name (drop (prefix_len is_name_byte bs) bs) ≡ false → starts_name (drop (cond x (1 + prefix_len is_name_byte bs) 0) (b ∷ bs)) ≡ false
    at true e later =
        let one : suc (prefix_len is_name_byte bs) ≡ 1 + prefix_len is_name_byte bs = omega arith in
        subst (λ (k : ℕ). starts_name (drop k (b ∷ bs)) ≡ false) one later
    at false e later = e

-- no name goes on after the first one, or after the first byte if that is of none
pub word_ends : (l : List ℕ) (n : ℕ) → n ≡ min (max (prefix_len is_name_byte l) 1) (length l) → (ends_name (take n l) && starts_name (drop n l)) ≡ false
word_ends [] n e = let nothing : 0 ≡ n = omega (arith, e) in subst (λ (k : ℕ). (ends_name (take k []) && starts_name (drop k [])) ≡ false) nothing refl
word_ends (b ∷ bs) n e = at (is_name_byte b) refl
  where
    at : (x : Bool) → is_name_byte b ≡ x → (ends_name (take n (b ∷ bs)) && starts_name (drop n (b ∷ bs))) ≡ false
    at true is =
        let run : prefix_len is_name_byte (b ∷ bs) ≡ 1 + prefix_len is_name_byte bs = ap (λ (x : Bool). cond x (1 + prefix_len is_name_byte bs) 0) is in
        let within : prefix_len is_name_byte bs ≤ length bs = prefix_len-le-length is_name_byte bs in
        let all : n ≡ prefix_len is_name_byte (b ∷ bs) = omega (arith, e, run, within) in
        and_no (ends_name (take n (b ∷ bs))) (starts_name (drop n (b ∷ bs))) (subst (λ (k : ℕ). starts_name (drop k (b ∷ bs)) ≡ false) (sym all) (run_ends (b ∷ bs)))
    at false is =
        let run : prefix_len is_name_byte (b ∷ bs) ≡ 0 = ap (λ (x : Bool). cond x (1 + prefix_len is_name_byte bs) 0) is in
        let one : 1 ≡ n = omega (arith, e, run) in
        subst (λ (k : ℕ). (ends_name (take k (b ∷ bs)) && starts_name (drop k (b ∷ bs))) ≡ false) one (ap (λ (x : Bool). x && starts_name bs) is)

begun_by : (P : NamedType → Type 0) (text rest shown : List ℕ) → rest ≡ text → shown ≡ [] → IsShownTo P text rest shown
begun_by P text rest shown same nothing = record { pieces = []; each = none P; whole = tt; text_is = sym same; shown_is = nothing }

pub begun : (names : List NamedType) (text rest shown : List ℕ) → rest ≡ text → shown ≡ [] → IsFoldedTo names text rest shown
begun names text rest shown same nothing = begun_by (IsPiece names) text rest shown same nothing

pub letters_begun : (letters : List NamedType) (text rest shown : List ℕ) → rest ≡ text → shown ≡ [] → IsLetteredTo letters text rest shown
letters_begun letters text rest shown same nothing = begun_by (IsWord letters) text rest shown same nothing

grown_by : (P : NamedType → Type 0) (text rest after shown next : List ℕ) (p : NamedType) → IsShownTo P text rest shown → P p → rest ≡ p.text ++ after → next ≡ shown ++ p.name
    → (ends_name p.text && starts_name after) ≡ false → IsShownTo P text after next
grown_by P text rest after shown next p so piece split pushed end =
    let before : List ℕ = flat_map (λ (q : NamedType). q.text) so.pieces in
    record {
      pieces = so.pieces ++ p ∷ [];
      each = All-append P so.pieces (p ∷ []) so.each (one P p piece);
      whole = whole_more so.pieces rest after p split end so.whole;
      text_is = so.text_is ∙ (ap (λ (l : List ℕ). before ++ l) split ∙ (sym (append_assoc before p.text after) ∙ ap (λ (l : List ℕ). l ++ after) (sym (piece_more (λ (q : NamedType). q.text) so.pieces p))));
      shown_is = pushed ∙ (ap (λ (l : List ℕ). l ++ p.name) so.shown_is ∙ sym (piece_more (λ (q : NamedType). q.name) so.pieces p));
    }

pub grown : (names : List NamedType) (text rest after shown next : List ℕ) (p : NamedType) → IsFoldedTo names text rest shown → IsPiece names p → rest ≡ p.text ++ after → next ≡ shown ++ p.name
    → (ends_name p.text && starts_name after) ≡ false → IsFoldedTo names text after next
grown names text rest after shown next p so piece split pushed end = grown_by (IsPiece names) text rest after shown next p so piece split pushed end

pub letters_grown : (letters : List NamedType) (text rest after shown next : List ℕ) (p : NamedType) → IsLetteredTo letters text rest shown → IsWord letters p → rest ≡ p.text ++ after → next ≡ shown ++ p.name
    → (ends_name p.text && starts_name after) ≡ false → IsLetteredTo letters text after next
letters_grown letters text rest after shown next p so piece split pushed end = grown_by (IsWord letters) text rest after shown next p so piece split pushed end

no_items : (l : List ℕ) → length l ≡ 0 → l ≡ []
no_items [] e = refl
no_items (x ∷ l) e = absurd (omega (arith, e))

pub ended : (names : List NamedType) (text rest shown : List ℕ) → IsFoldedTo names text rest shown → length rest ≡ 0 → IsFolded names text shown
ended names text rest shown so nothing = record {
  pieces = so.pieces;
  each = so.each;
  whole = whole_all so.pieces rest (no_items rest nothing) so.whole;
  text_is = so.text_is ∙ (ap (λ (l : List ℕ). flat_map (λ (q : NamedType). q.text) so.pieces ++ l) (no_items rest nothing) ∙ append-nil _);
  shown_is = so.shown_is;
}

pub letters_ended : (letters : List NamedType) (text rest shown : List ℕ) → IsLetteredTo letters text rest shown → length rest ≡ 0 → IsLettered letters text shown
letters_ended letters text rest shown so nothing = record {
  pieces = so.pieces;
  each = so.each;
  whole = whole_all so.pieces rest (no_items rest nothing) so.whole;
  text_is = so.text_is ∙ (ap (λ (l : List ℕ). flat_map (λ (q : NamedType). q.text) so.pieces ++ l) (no_items rest nothing) ∙ append-nil _);
  shown_is = so.shown_is;
}

-- a text without names is one piece
pub unfolded : (names : List NamedType) (text shown : List ℕ) → shown ≡ text → IsFolded names text shown
unfolded names text shown same = record {
  pieces = record { name = shown; text = text } ∷ [];
  each = one (IsPiece names) (record { name = shown; text = text }) (inl same);
  whole = (and_no (ends_name text) false refl, tt);
  text_is = sym (append-nil text);
  shown_is = sym (append-nil shown);
}

-- one of the names
pub alias_there : (aliases : List Alias) (k : ℕ) (a : Alias) → k < length aliases → a ≡ get_or aliases k a → Contains (map alias_of aliases) (alias_of a)
alias_there aliases k a within is =
    (k, subst (λ (n : ℕ). k < n) (sym (length-map aliases alias_of)) within, get_or-map alias_of aliases k a (alias_of a) within ∙ ap alias_of (sym is))

-- the bytes of names at the beginning are of names
run_all : (l : List ℕ) → All (λ (b : ℕ). is_name_byte b ≡ true) (take (prefix_len is_name_byte l) l)
run_all [] = none (λ (b : ℕ). is_name_byte b ≡ true)
run_all (b ∷ bs) = at (is_name_byte b) refl (run_all bs)
  where
    P : ℕ → Type 0
    P c = is_name_byte c ≡ true

    at : (x : Bool) → is_name_byte b ≡ x → All P (take (prefix_len is_name_byte bs) bs) → All P (take (cond x (1 + prefix_len is_name_byte bs) 0) (b ∷ bs))
    at true e later =
        let one : suc (prefix_len is_name_byte bs) ≡ 1 + prefix_len is_name_byte bs = omega arith in
        subst (λ (k : ℕ). All P (take k (b ∷ bs))) one (All-cons P b (take (prefix_len is_name_byte bs) bs) e later)
    at false e later = none P

-- the first word of a text
pub word_is_one : (l : List ℕ) (n : ℕ) → n ≡ min (max (prefix_len is_name_byte l) 1) (length l) → IsOneWord (take n l)
word_is_one l n e = at (prefix_len is_name_byte l) refl
  where
    within : prefix_len is_name_byte l ≤ length l
    within = prefix_len-le-length is_name_byte l

    at : (k : ℕ) → prefix_len is_name_byte l ≡ k → IsOneWord (take n l)
    at zero z =
        let small : n ≤ 1 = omega (arith, e, z) in
        let inside : n ≤ length l = omega (arith, e, z) in
        inl (omega (arith, small, length-take-le n l inside))
    at (suc k) z =
        let all : prefix_len is_name_byte l ≡ n = omega (arith, e, z, within) in
        inr (subst (λ (m : ℕ). All (λ (b : ℕ). is_name_byte b ≡ true) (take m l)) all (run_all l))
