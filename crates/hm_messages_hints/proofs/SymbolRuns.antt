-- A run of bytes below 128 is a text.
use Rattle.std.proofs.Common.{◌≡◌, ℕ, ◌<◌, ◌≤◌, List, length, take, get_or, subst, sym, arith}
use Rattle.std.specs.Str.{IsUtf8}
use Rattle.std.proofs.lemmas.List.{get_or-take, length-take-le}
use Rattle.std.proofs.lemmas.Str.{IsUtf8-from_ascii}
use Rattle.std.proofs.lemmas.Str.Ascii.{IsAscii-from_reads}

pub run_utf8 : (text : List ℕ) (n : ℕ) → n ≤ length text → ((k : ℕ) → k < n → get_or text k 0 < 128) → IsUtf8 (take n text)
run_utf8 text n within low =
    let long : length (take n text) ≡ n = length-take-le n text within in
    IsUtf8-from_ascii (take n text) (IsAscii-from_reads (take n text) n (omega (arith, long)) (λ k less. subst (λ (b : ℕ). b < 128) (sym (get_or-take n text k 0 less)) (low k less)))
