use Rattle.std.proofs.Common.{◌≡◌, Some, None, sym, ◌∙◌, rules}
use Rattle.std.specs.List.{position}
use Rattle.std.proofs.lemmas.Bool.{false≢true}
use Rattle.link_traits.specs.Contents.{is_named}
use Rattle.memory_outside.proofs.Parts.{position-with_file, position-None}
use Rattle.memory_outside.proofs.memory_folder.put_in.Goals as goal

pub returns-in-Some : goal.returns-in-Some
returns-in-Some c =
    let at : position (is_named c.args.file.name) c.args.files.now.items ≡ Some c.in-Some.place = search rules in
    position-with_file c.args.files.now.items c.args.file c.in-Some.place at

pub returns-in_default : goal.returns-in_default
returns-in_default c =
    let none : position (is_named c.args.file.name) c.args.files.now.items ≡ None = search rules in
    absurd (false≢true (sym (position-None (is_named c.args.file.name) c.args.files.now.items none) ∙ c.requires))
