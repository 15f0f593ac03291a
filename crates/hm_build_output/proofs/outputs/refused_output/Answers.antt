use Rattle.std.proofs.Common.{map, string_bytes}
use Rattle.hm_build_output.proofs.Telling.{all_refused, refused_listed, refused_run}
use Rattle.hm_build_output.proofs.outputs.refused_output.Goals as goal

pub returns : goal.returns
returns c =
    let a = c.in_ok-answer.answer in
    let run_options = c.args.run_options.now in
    let sources = map (λ s. s.items) c.args.sources.now in
    let fault = c.args.refused.now.fault in
    record {
      text = string_bytes a.text;
      run = refused_run run_options.options.workers run_options.options.journal sources fault a.status (string_bytes a.text) c.requires.because c.in_ok-answer.ensures.status c.in_ok-answer.ensures.text;
      in_form = refused_listed run_options.listed sources fault a.status (string_bytes a.text) (string_bytes c.in_ok-text.text) c.requires.because c.in_ok-answer.ensures.status c.in_ok-answer.ensures.text
          c.in_ok-text.ensures.object c.in_ok-text.ensures.text;
      explained = all_refused run_options.messages sources fault a.status (string_bytes a.text) c.in_ok-messages.messages.items c.in_ok-answer.ensures.status c.in_ok-answer.ensures.text c.in_ok-messages.ensures.some c.in_ok-messages.ensures.none;
    }
