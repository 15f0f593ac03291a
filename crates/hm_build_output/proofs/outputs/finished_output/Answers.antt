use Rattle.std.proofs.Common.{map, string_bytes}
use Rattle.hm_build_output.proofs.Telling.{all_listed, all_told}
use Rattle.hm_build_output.proofs.outputs.finished_output.Goals as goal

pub returns : goal.returns
returns c records finished =
    let store = c.args.store.now in
    let run_options = c.args.run_options.now in
    let workers = run_options.options.workers in
    let sources = map (λ s. s.items) c.args.sources.now in
    let a = c.in_ok-answer.answer in
    record {
      text = string_bytes a.text;
      run = c.in_ok-answer.ensures.run sources records workers finished;
      in_form = all_listed run_options.listed sources store records workers run_options.options.journal c.args.counts.now a.status (string_bytes a.text) (string_bytes c.in_ok-text.text) c.in_ok-answer.ensures.report c.in_ok-answer.ensures.status
          finished c.requires c.in_ok-text.ensures.objects c.in_ok-text.ensures.text;
      explained = all_told run_options.messages sources store records workers run_options.options.journal a.status (string_bytes a.text) c.in_ok-messages.messages.items c.in_ok-answer.ensures.report c.in_ok-answer.ensures.status
          finished c.in_ok-messages.ensures.some c.in_ok-messages.ensures.none;
    }
