use Rattle.std.proofs.Common.{rules, ◌≡◌, ◌⊎◌, List, ℕ, [], inr, map, subst}
use Rattle.std.specs.Arc.{arc_value}
use Rattle.hm_messages_joint.specs.Joints.{HasTypeWithBoth, NeedsBoth}
use Rattle.hm_build_messages.specs.Jointly.{IsJointNote}
use Rattle.hm_build_messages.proofs.joint.joint_notes.Goals as goal

pub returns : goal.returns
returns c =
    let format = c.args.«module».now.format in
    let page = c.args.«module».now.page.now in
    let name = c.args.«module».now.question.now.name.now in
    let imports = map arc_value c.args.«module».now.question.now.imports.now in
    let fault = c.args.found.now.fault.now in
    let first = c.in-Some.joint.first in
    let second = c.in-Some.joint.second in
    let one = c.in_ok-text.text.items in
    let two = c.in_ok-second.second.items in
    inr (record {
      untyped = c.in-Some.ensures.untyped;
      first = first;
      second = second;
      suffices = subst (λ (s : List ℕ). HasTypeWithBoth s name imports fault.name first second) c.requires c.in-Some.ensures.suffices;
      needed = subst (λ (s : List ℕ). NeedsBoth s name imports fault.name first second) c.requires c.in-Some.ensures.needed;
      one = one;
      one_stated = subst (λ (d : List ℕ). (one ≡ []) ⊎ IsJointNote format page.file.now page.lines d first second one) c.as_str-definition.ensures c.in_ok-text.ensures;
      two = two;
      two_stated = subst (λ (d : List ℕ). (two ≡ []) ⊎ IsJointNote format page.file.now page.lines d second first two) c.as_str-definition.ensures c.in_ok-second.ensures;
      whole = search rules;
    })
