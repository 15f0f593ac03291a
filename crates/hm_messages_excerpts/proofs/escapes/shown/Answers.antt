use Rattle.std.proofs.Common.{rules, ◌≡◌, ◌-◌, ◌<◌, ◌≤◌, ◌^◌, ℕ, List, ◌++◌, length, get_or, take, drop, string_bytes, sym, ap, ◌∙◌, arith, append-nil}
use Rattle.std.proofs.lemmas.List.{drop_all, take_rest}
use Rattle.bstr.specs.Utf8.{decoded}
use Rattle.hm_messages_excerpts.specs.Escapes.{piece_size, piece_text, shown}
use Rattle.hm_messages_excerpts.proofs.Escaping.{piece_fits, piece_more, shown_nil}
use Rattle.hm_messages_excerpts.proofs.escapes.shown.Goals as goal

pub overflow_add-start : goal.overflow_add-start
overflow_add-start c =
    let bytes : List ℕ = c.args.bytes.now in
    let start : ℕ = c.loop-start.start in
    let whole : take (length bytes - start) (drop start bytes) ≡ drop start bytes = take_rest bytes start in
    let size : c.in_ok-start.field-0 ≡ piece_size (decoded (drop start bytes)) = c.in_ok-start.ensures.size ∙ ap (λ (l : List ℕ). piece_size (decoded l)) whole in
    let fits = piece_fits bytes start c.in_ok-start.field-0 c.loop-start-test.true size in
    let small : length bytes < 2 ^ 64 = search rules in
    omega (arith, fits.1, small)

pub loop-start-smaller : goal.loop-start-smaller
loop-start-smaller c =
    let bytes : List ℕ = c.args.bytes.now in
    let start : ℕ = c.loop-start.start in
    let whole : take (length bytes - start) (drop start bytes) ≡ drop start bytes = take_rest bytes start in
    let size : c.in_ok-start.field-0 ≡ piece_size (decoded (drop start bytes)) = c.in_ok-start.ensures.size ∙ ap (λ (l : List ℕ). piece_size (decoded l)) whole in
    let fits = piece_fits bytes start c.in_ok-start.field-0 c.loop-start-test.true size in
    let inside : start < length bytes = c.loop-start-test.true in
    omega (arith, fits.0, fits.1, inside)

pub loop-start-preserved : goal.loop-start-preserved
loop-start-preserved c =
    let bytes : List ℕ = c.args.bytes.now in
    let start : ℕ = c.loop-start.start in
    let whole : take (length bytes - start) (drop start bytes) ≡ drop start bytes = take_rest bytes start in
    let size : c.in_ok-start.field-0 ≡ piece_size (decoded (drop start bytes)) = c.in_ok-start.ensures.size ∙ ap (λ (l : List ℕ). piece_size (decoded l)) whole in
    let fits = piece_fits bytes start c.in_ok-start.field-0 c.loop-start-test.true size in
    let text = c.in_ok-start.ensures.text ∙ ap (λ (l : List ℕ). string_bytes c.loop-start.text ++ piece_text (decoded l).char (get_or l 0 0)) whole in
    record {
      within = fits.1;
      so_far = piece_more bytes start c.in_ok-start.field-0 (string_bytes c.loop-start.text) (string_bytes c.add_piece.new.text) c.loop-start-test.true size text c.loop-start.invariant.so_far;
    }

pub returns : goal.returns
returns c =
    let bytes : List ℕ = c.args.bytes.now in
    let text : List ℕ = string_bytes c.loop-start.text in
    let past : length bytes ≤ c.loop-start.start = search rules in
    sym (append-nil text) ∙ ap (λ (l : List ℕ). text ++ l) (sym shown_nil ∙ ap shown (sym (drop_all c.loop-start.start bytes past))) ∙ c.loop-start.invariant.so_far
