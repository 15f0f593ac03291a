use Rattle.std.proofs.Common.{rules}
use Rattle.hm_run_io.proofs.Transferring.{consumes_more, held_at_end, held_at_limit, left_at_end, left_at_limit}
use Rattle.hm_run_io.proofs.reading.read_source.Goals as goal

pub returns-in-Some-eq0-clause-bytes : goal.returns-in-Some-eq0-clause-bytes
returns-in-Some-eq0-clause-bytes g c =
    let came = c.in_ok-read_once.ensures.bytes in
    let more = consumes_more _ _ _ _ _ _ c.loop-reader.invariant.4 came.2 came.1 in
    held_at_end _ _ _ more (c.in_ok-read_once.ensures.end (search rules)) (search rules)

pub returns-then-len-gt-MAX_SOURCE_LEN-clause-bytes :
    goal.returns-then-len-gt-MAX_SOURCE_LEN-clause-bytes
returns-then-len-gt-MAX_SOURCE_LEN-clause-bytes g c =
    let came = c.in_ok-read_once.ensures.bytes in
    let more = consumes_more _ _ _ _ _ _ c.loop-reader.invariant.4 came.2 came.1 in
    held_at_limit _ _ _ more (search rules)

pub returns-in-Some-eq0-clause-read_up : goal.returns-in-Some-eq0-clause-read_up
returns-in-Some-eq0-clause-read_up g c =
    let came = c.in_ok-read_once.ensures.bytes in
    let more = consumes_more _ _ _ _ _ _ c.loop-reader.invariant.4 came.2 came.1 in
    left_at_end _ _ _ more (c.in_ok-read_once.ensures.end (search rules)) (search rules)

pub returns-then-len-gt-MAX_SOURCE_LEN-clause-read_up : goal.returns-then-len-gt-MAX_SOURCE_LEN-clause-read_up
returns-then-len-gt-MAX_SOURCE_LEN-clause-read_up g c =
    let came = c.in_ok-read_once.ensures.bytes in
    let more = consumes_more _ _ _ _ _ _ c.loop-reader.invariant.4 came.2 came.1 in
    left_at_limit _ _ _ more (search rules)
