-- Types with the letters of a signature (Report 4.1.2, 4.4.1).
use Rattle.std.specs.Prelude.{◌≡◌, ◌⊎◌, ◌≤◌, true, not, List, ℕ, ◌++◌, All, AllPairs, Contains, codes, filter, flat_map, length, slice_range}
use Rattle.hm_lex.specs.Bytes.{is_name_byte, is_white}
use Rattle.hm_messages_types.specs.Shown.{AreWhole, NamedType}

-- the bytes are all of one name, or there is at most one
abbrev pub IsOneWord : List ℕ → Type 0
IsOneWord text = (length text ≤ 1) ⊎ All (λ b. is_name_byte b ≡ true) text

-- no letter stands for this word, and none is this word
abbrev pub IsNoLetter : List NamedType → List ℕ → Type 0
IsNoLetter letters text = All (λ l. ¬ (l.text ≡ text) × ¬ (l.name ≡ text)) letters

-- a word of a text: a variable, which is shown by its letter, or another word, which is shown as it is
abbrev pub IsWord : List NamedType → NamedType → Type 0
IsWord letters p = Contains letters p ⊎ ((p.name ≡ p.text) × IsOneWord p.text × IsNoLetter letters p.text)

-- what is shown is the text with each variable by its letter
pub record IsLettered (letters : List NamedType) (text shown : List ℕ) : Type 0 where
  pub pieces : List NamedType
  pub each : All (IsWord letters) pieces
  pub whole : AreWhole pieces
  pub text_is : text ≡ flat_map (λ p. p.text) pieces
  pub shown_is : shown ≡ flat_map (λ p. p.name) pieces

-- the bytes of a text that aren't white space
abbrev pub unspaced : List ℕ → List ℕ
unspaced text = filter (λ b. not (is_white b)) text

-- the source has the definition's name, `::` and this type in a row, up to white space
pub record IsSignedWith (source definition type : List ℕ) : Type 0 where
  pub from : ℕ
  pub to : ℕ
  pub is : unspaced (slice_range source from to) ≡ unspaced (definition ++ (codes "::" ++ type))

-- no two letters stand for one variable, and no two are the same
abbrev pub AreApart : List NamedType → Type 0
AreApart letters = AllPairs (λ l m. ¬ (l.text ≡ m.text) × ¬ (l.name ≡ m.name)) letters

-- with these letters the definition's type is shown as its signature is written
pub record AreLettersOf (source definition own : List ℕ) (letters : List NamedType) : Type 0 where
  pub apart : AreApart letters
  pub type : List ℕ
  pub lettered : IsLettered letters own type
  pub written : IsSignedWith source definition type

-- two types of a part of the definition, which has this type of its own, with the letters of its signature
pub record HaveLetters (source definition own expected actual shown_expected shown_actual : List ℕ) : Type 0 where
  pub letters : List NamedType
  pub of_signature : AreLettersOf source definition own letters
  pub expected_is : IsLettered letters expected shown_expected
  pub actual_is : IsLettered letters actual shown_actual
