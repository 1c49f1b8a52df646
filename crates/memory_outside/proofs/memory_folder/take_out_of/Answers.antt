use Rattle.std.proofs.Common.{◌≡◌, Some, None, ◌∙◌, rules}
use Rattle.std.specs.List.{position}
use Rattle.link_traits.specs.Contents.{is_named}
use Rattle.memory_outside.proofs.Parts.{position-without, position-without-none}
use Rattle.memory_outside.proofs.memory_folder.take_out_of.Goals as goal

pub returns-in-Some : goal.returns-in-Some
returns-in-Some c =
    let at : position (is_named c.args.name.now) c.args.files.now.items ≡ Some c.in-Some.place = search rules in
    c.remove.ensures.items ∙ position-without c.args.files.now.items c.args.name.now c.in-Some.place c.remove.result at

pub returns-in_default : goal.returns-in_default
returns-in_default c =
    let none : position (is_named c.args.name.now) c.args.files.now.items ≡ None = search rules in
    position-without-none c.args.files.now.items c.args.name.now none
