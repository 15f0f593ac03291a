-- Worked examples of listings.
use Rattle.std.proofs.Common.{◌≡◌, ◌++◌, ◌+◌, ℕ, List, [], ◌∷◌, length, length-append, refl, sym, ap, arith, ◌∙◌}
use Rattle.std.specs.Prelude.{codes, flat_map}
use Rattle.serde_json.specs.Data.{Data, Members, array, boolean, member, no_members, null, number, object, string}
use Rattle.serde_json.specs.Written.{compact_text}
use Rattle.std.proofs.lemmas.List.Sorted.{IsPermutation-refl}
use Rattle.hm_verdicts.specs.Verdicts.{Status}
use Rattle.hm_verdicts.specs.Reports.{Block}
use Rattle.hm_build_listing.specs.Listings.{IsListing, counts_data, end_text}
use Rattle.hm_build_listing.specs.Worked.{MissingRow, NothingRow, no_modules}

counts_are : (file : ℕ → List ℕ) (status : ℕ → Status) → IsListing file no_modules status (end_text status 0)
counts_are file status = record {
  lines = [];
  each = record { long = refl; each = λ m d within. absurd (omega (arith, within)) };
  order = [];
  same = IsPermutation-refl [];
  ordered = λ k d low high. absurd (omega (arith, high));
  whole = refl;
}

no_text : (front text : List ℕ) → ¬ ([] ≡ front ++ (text ++ codes "\n"))
no_text front text e =
    let long : 0 ≡ length (front ++ (text ++ codes "\n")) = ap length e in
    omega (arith, long, length-append front (text ++ codes "\n"), length-append text (codes "\n"))

isnt_empty : (file : ℕ → List ℕ) (status : ℕ → Status) → ¬ (IsListing file no_modules status [])
isnt_empty file status h = no_text (flat_map (λ (b : Block). b.text) h.order) (compact_text (counts_data 0 0 0 0)) h.whole

pub nothing : NothingRow
nothing = record { counts = counts_are; not_empty = isnt_empty }

-- whether a value is a text
abbrev is_text : Data → ℕ
is_text null = 0
is_text (boolean b) = 0
is_text (number n) = 0
is_text (string s) = 1
is_text (array ds) = 0
is_text (object ms) = 0

-- whether the first member of an object is
abbrev names_text : Members → ℕ
names_text no_members = 0
names_text (member k d ms) = is_text d

abbrev has_text : Data → ℕ
has_text null = 0
has_text (boolean b) = 0
has_text (number n) = 0
has_text (string s) = 0
has_text (array ds) = 0
has_text (object ms) = names_text ms

pub missing : MissingRow
missing = record {
  missing = refl;
  no_cycle = λ e. let other : 1 ≡ 0 = ap has_text e in absurd (omega (arith, other));
}
