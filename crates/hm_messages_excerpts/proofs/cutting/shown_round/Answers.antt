use Rattle.std.proofs.Common.{rules, ◌<◌, ◌≤◌, length, drop, take, sym, ap, ◌∙◌, arith, ℕ, List, ◌++◌}
use Rattle.std.proofs.lemmas.List.{take-append-drop, take_rest, drop_all, length-drop, length-take-le}
use Rattle.hm_messages_excerpts.proofs.cutting.shown_round.Goals as goal

pub returns : goal.returns
returns c =
    let front : List ℕ = c.args.front.now in
    let back : List ℕ = c.args.back.now in
    let start : ℕ = c.first_shown-start.result in
    let end : ℕ = c.shown_end-end.result in
    record {
      before = take start front;
      after = drop end back;
      front_is = sym (take-append-drop start front) ∙ ap (λ (l : List ℕ). take start front ++ l) (sym (take_rest front start));
      back_is = sym (take-append-drop end back);
      whole_left = λ e. search rules;
      whole_right = λ e. let past : length back ≤ end = search (rules, e) in drop_all end back past;
      long_left = λ e. let cut : 0 < start = search (rules, e) in omega (arith, c.first_shown-start.ensures.long cut, ap length (take_rest front start), length-drop start front);
      long_right = λ e. let cut : end < length back = search (rules, e) in omega (arith, c.shown_end-end.ensures.long cut, length-take-le end back c.shown_end-end.ensures.within);
      short_left = search rules;
      short_right = search rules;
    }
