-- Worked examples: streams and their first frames.
use Rattle.std.specs.Prelude.{◌≡◌, [], Some, None, codes}
use Rattle.hm_lsp_frames.specs.Frames.{body, malformed, first_frame}

-- bodies
pub record BodiesRow : Type 0 where
  pub body_with_rest : first_frame (codes "Content-Length: 2\r\n\r\n{}Con") ≡ Some (body (codes "{}"), codes "Con")
  pub any_case : first_frame (codes "content-length:0002 \r\nContent-Type: a\r\n\r\n{}") ≡ Some (body (codes "{}"), [])
  pub missing_byte : first_frame (codes "Content-Length: 2\r\n\r\n{") ≡ None
  pub no_empty_line : first_frame (codes "Content-Length: 2\r\n") ≡ None
  pub not_whole : ¬ (first_frame (codes "Content-Length: 1\r\n\r\n{}") ≡ Some (body (codes "{}"), []))

-- malformed headers
pub record MalformedRow : Type 0 where
  pub two_lengths : first_frame (codes "Content-Length: 1\r\nContent-Length: 2\r\n\r\nContent-Length: 3") ≡ Some (malformed, codes "Content-Length: 3")
  pub no_number : first_frame (codes "Content-Length: +1\r\n\r\n{") ≡ Some (malformed, codes "{")
  pub no_length : first_frame (codes "Length: 1\r\n\r\n{") ≡ Some (malformed, codes "{")
  pub lost_bytes : first_frame (codes "}}Content-Length: 1\r\n\r\n{") ≡ Some (malformed, codes "Content-Length: 1\r\n\r\n{")
  pub not_eaten : ¬ (first_frame (codes "Content-Length: 1\r\nContent-Length: 2\r\n\r\nC") ≡ Some (malformed, []))
