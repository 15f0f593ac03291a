use Rattle.hm_run_parallel_parse.proofs.parsing.modules_of.Goals as goal

pub parsed_in_runs-requires-after_bounds : goal.parsed_in_runs-requires-after_bounds
parsed_in_runs-requires-after_bounds g c κs within = rw c.as_slice.ensures.value (c.token_texts.ensures c.args.text.now c.in-Ok.tokens.items c.in-Ok.ensures.ok)
