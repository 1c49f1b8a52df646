use Rattle.std.proofs.Common.{◌≡◌, ◌∙◌, ap, Some}
use Rattle.wire_forms.specs.declared.reply.Reply.{Reply}
use Rattle.wire_forms.specs.declared.reply.Reply.TheVariants.{Columns}
use Rattle.my_session.proofs.Stepping.{count_heard, count_refused}
use Rattle.my_session.proofs.rows.hear_count.Goals as goal

pub returns-in-Ok-Some-Columns-clause-counted : goal.returns-in-Ok-Some-Columns-clause-counted
returns-in-Ok-Some-Columns-clause-counted g c =
    let here = c.in-Ok-Some-Columns in
    let is : here.field-0 ≡ Some (Columns here.columns) = cc in
    let reads = rw is at here.ensures.reads in
    record {
      some = reads.columns.0;
      few = reads.columns.1;
      reader = reads.reader;
      rest = record {
        alive = here.ensures.alive;
        rest = count_heard g.L.Link c.args.channel.now.link c.hear_reply.new.channel.link c.args.channel.now.id c.hear_reply.new.channel.id c.hear_reply.ensures.keeps.stays c.requires.awaits.waits here.field-0 here.ensures.served c.args.reader.now.ends c.requires.server here.columns is reads.columns.0;
      };
    }

pub returns-in-Ok-Some-Refused-clause-fault : goal.returns-in-Ok-Some-Refused-clause-fault
returns-in-Ok-Some-Refused-clause-fault g c =
    let here = c.in-Ok-Some-Refused in
    record {
      kind = tt;
      rest = λ goes_on. record {
        alive = here.ensures.alive;
        quiet =
            count_refused g.L.Link c.args.channel.now.link c.hear_reply.new.channel.link c.args.channel.now.id c.hear_reply.new.channel.id c.hear_reply.ensures.keeps.stays c.requires.awaits.waits here.field-0 here.ensures.served here.refusal (here.field-0-is ∙ ap (λ (r : Reply). Some r) here.field-0-0-is);
      };
    }
