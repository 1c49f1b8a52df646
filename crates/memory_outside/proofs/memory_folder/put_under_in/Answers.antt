use Rattle.std.proofs.Common.{◌≡◌, Some, None, string_bytes, rules}
use Rattle.std.specs.List.{position}
use Rattle.link_traits.specs.Contents.{is_named}
use Rattle.memory_outside.proofs.Parts.{position-with_name, position-with_name-none}
use Rattle.memory_outside.proofs.memory_folder.put_under_in.Goals as goal

pub returns-in-Some : goal.returns-in-Some
returns-in-Some c =
    let at : position (is_named c.args.from.now) c.args.files.now.items ≡ Some c.in-Some.place = search rules in
    rw c.set_name.ensures (position-with_name c.args.files.now.items c.args.from.now (string_bytes c.args.to) c.in-Some.place c.index_mut-file.result.now at c.index_mut-file.ensures.value)

pub returns-in_default : goal.returns-in_default
returns-in_default c =
    let none : position (is_named c.args.from.now) c.args.files.now.items ≡ None = search rules in
    position-with_name-none c.args.files.now.items c.args.from.now (string_bytes c.args.to) none
