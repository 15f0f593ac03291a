use Rattle.std.proofs.Common.{rules, refl}
use Rattle.hm_messages_details.specs.Details.{known_of}
use Rattle.hm_build_messages.specs.Searching.{interfaces_of}
use Rattle.hm_build_messages.proofs.detailing.noted_message.Goals as goal

pub returns : goal.returns
returns c = record {
  message = c.in_ok-text.text.items;
  notes = c.in_ok-notes.notes.items;
  says = record {
    known = known_of c.in_ok-detail.detail;
    so = c.in_ok-detail.ensures (interfaces_of c.args.here.now) refl c.requires.scope c.requires.tables;
    stated = c.in_ok-text.ensures;
  };
  noted = c.in_ok-notes.ensures.noted;
  silent = c.in_ok-notes.ensures.silent;
  whole = search rules;
}
