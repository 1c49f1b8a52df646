use Rattle.std.proofs.Common.{◌≡◌, Some, None, ◌∙◌, rules}
use Rattle.link_traits.specs.Contents.{contents_of}
use Rattle.memory_outside.proofs.Parts.{bytes_of-found, bytes_of-passed}
use Rattle.memory_outside.proofs.memory_folder.MemoryFolder.file.Goals as goal

pub returns-in-Some : goal.returns-in-Some
returns-in-Some c =
    let found : contents_of c.part-item.result.items c.args.name.now ≡ Some c.in-Some.bytes.now = search rules in
    c.parts.invariant ∙ bytes_of-found (λ part. part.items) c.as_slice-part-items.result.now c.parts.part-index c.part-item.result c.args.name.now c.in-Some.bytes.now c.parts-test.true c.part-item.is found

pub parts-preserved : goal.parts-preserved
parts-preserved c =
    let none : contents_of c.part-item.result.items c.args.name.now ≡ None = search rules in
    c.parts.invariant ∙ bytes_of-passed (λ part. part.items) c.as_slice-part-items.result.now c.parts.part-index c.part-item.result c.args.name.now c.parts-test.true c.part-item.is none
