use Rattle.std.proofs.Common.{sym, ◌∙◌, inr}
use Rattle.hm_lex.specs.Shapes.{comment, malformed}
use Rattle.hm_lex.proofs.Malformed.{no_item_at_malformed}
use Rattle.hm_lex.proofs.NestedComments.{mark_longest, nested_longest, open_comment, no_item_at_open, not_open}
use Rattle.hm_lex.proofs.comments.special.Goals as goal

pub returns-then-not-begins_comment : goal.returns-then-not-begins_comment
returns-then-not-begins_comment c = mark_longest c.args.bytes.now c.requires (sym c.begins_comment.ensures.value ∙ c.if-not-begins_comment.true)

pub returns-in-Ok : goal.returns-in-Ok
returns-in-Ok c =
    let mark = sym c.begins_comment.ensures.value ∙ c.if-not-begins_comment.false in
    let long = c.begins_comment.ensures.long c.if-not-begins_comment.false in
    (c.in-Some.ensures.within, nested_longest c.args.bytes.now c.in-Some.len comment c.requires long mark c.in-Some.ensures.value c.in-Some.ensures.within (λ n. (inr n, c.in-Ok.ensures.cases.1)))

pub returns-in-Err : goal.returns-in-Err
returns-in-Err c =
    let mark = sym c.begins_comment.ensures.value ∙ c.if-not-begins_comment.false in
    let long = c.begins_comment.ensures.long c.if-not-begins_comment.false in (
      no_item_at_malformed _ c.args.bytes.now (nested_longest c.args.bytes.now c.in-Some.len malformed c.requires long mark c.in-Some.ensures.value c.in-Some.ensures.within (λ n. inr (inr (inr (inr (inr n, c.in-Err.ensures.cases.0)))))),
      not_open c.args.bytes.now c.in-Some.len long mark c.in-Some.ensures.value,
    )

pub returns-in-Ok-from_utf8 : goal.returns-in-Ok-from_utf8
returns-in-Ok-from_utf8 c =
    let mark = sym c.begins_comment.ensures.value ∙ c.if-not-begins_comment.false in
    let long = c.begins_comment.ensures.long c.if-not-begins_comment.false in
    open_comment c.args.bytes.now long mark c.in-None.ensures.value c.in-Ok-from_utf8.ensures.cases.1

pub returns-in-Err-from_utf8 : goal.returns-in-Err-from_utf8
returns-in-Err-from_utf8 c =
    let mark = sym c.begins_comment.ensures.value ∙ c.if-not-begins_comment.false in
    let long = c.begins_comment.ensures.long c.if-not-begins_comment.false in
    (no_item_at_open c.args.bytes.now c.requires long mark c.in-None.ensures.value, λ o. c.in-Err-from_utf8.ensures.cases.0 o.is_text)
