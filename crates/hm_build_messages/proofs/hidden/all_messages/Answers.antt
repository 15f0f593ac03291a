use Rattle.std.proofs.Common.{rules, ◌≡◌, ◌∙◌, ◌++◌, List, ℕ, [], ap, append_assoc, append-nil, inl, refl, sym}
use Rattle.hm_build_messages.proofs.hidden.all_messages.Goals as goal

pub returns-then-allowance : goal.returns-then-allowance
returns-then-allowance c = record {
  messages = c.in_ok-text.text.items;
  types = [];
  notes = [];
  stated = c.in_ok-text.ensures;
  expected = inl refl;
  beyond = inl refl;
  silent = λ e. refl;
  whole = sym (append-nil c.in_ok-text.text.items);
}

pub returns : goal.returns
returns c =
    let messages = c.in_ok-text.text.items in
    let types = c.in_ok-types.types.items in
    let notes = c.in_ok-notes.notes.items in
    let first : c.extend_from_slice.new.self.items ≡ messages ++ types = search rules in
    let second : c.extend_from_slice-2.new.self.items ≡ c.extend_from_slice.new.self.items ++ notes = search rules in
    record {
      messages = messages;
      types = types;
      notes = notes;
      stated = c.in_ok-text.ensures;
      expected = c.in_ok-types.ensures;
      beyond = c.in_ok-notes.ensures;
      silent = λ e. search rules;
      whole = second ∙ (ap (λ (l : List ℕ). l ++ notes) first ∙ append_assoc messages types notes);
    }
