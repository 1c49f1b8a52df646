-- What a server sends in a dump turns out to be one thing.
use Rattle.std.proofs.Common.{◌≡◌, ◌<◌, ◌≤◌, ℕ, List, length, Option, Some, None, refl, sym, ◌∙◌, ap, subst, inl, inr, arith}
use Rattle.my_session.proofs.OneNext.{one_next}
use Rattle.my_session.specs.Awaited.{Awaited, fault_at}
use Rattle.my_session.specs.Wire.{Wire, Hears, after_sent}
use Rattle.my_session.specs.declared.fault.SessionFault.{SessionFault}
use Rattle.my_session.specs.declared.fault.SessionFault.TheVariants.{TooLong}
use Rattle.my_session.specs.declared.limits.TheConstants.{MESSAGE_LIMIT}
use Rattle.plain_data.specs.Cell.{Cell}
use Rattle.dumper_cli.specs.Course.{Comes, at_start, commanded, answered, heard, IsWhole, IsOverlong, EndsAt, at_message, at_unfit, at_disorder, at_length, at_limit, EndsWith, awaiting_it, sending_it, HasOneOutcome}
use Rattle.dumper_cli.specs.Stage.{Stage, Doing, awaits_greeting, is_over, commanding, answering, awaiting, nothing, doing, stage_after}
use Rattle.dumper_cli.specs.Words.{Asked}
use Rattle.dumper_cli.specs.declared.column.Column.{Column}

-- one step of a dump: a payload is sent, or a message is heard
data Moves (asked : Asked) (stage : Stage) (wire : Wire) : Stage → Wire → Type 0 where
  commands : {next : Stage} {payload : List ℕ} → doing asked stage ≡ commanding payload next → length payload ≤ MESSAGE_LIMIT → Moves asked stage wire next (after_sent 0 payload wire)
  answers : {next : Stage} {payload : List ℕ} → doing asked stage ≡ answering payload next → length payload ≤ MESSAGE_LIMIT → Moves asked stage wire next (after_sent wire.id payload wire)
  hears : {next : Stage} {new : Wire} {message : List ℕ} {awaited : Awaited} → doing asked stage ≡ awaiting awaited → Hears message wire new → fault_at awaited wire.place message ≡ None → stage_after stage message ≡ Some next → Moves asked stage wire next new

same_commanding : (is : Doing) (payload other : List ℕ) (next also : Stage) → is ≡ commanding payload next → is ≡ commanding other also → (payload ≡ other) × (next ≡ also)
same_commanding is payload other next also a b = (cc, cc)

same_answering : (is : Doing) (payload other : List ℕ) (next also : Stage) → is ≡ answering payload next → is ≡ answering other also → (payload ≡ other) × (next ≡ also)
same_answering is payload other next also a b = (cc, cc)

same_awaiting : (is : Doing) (awaited other : Awaited) → is ≡ awaiting awaited → is ≡ awaiting other → awaited ≡ other
same_awaiting is awaited other a b = cc

same_stage : (found : Option Stage) (next also : Stage) → found ≡ Some next → found ≡ Some also → next ≡ also
same_stage found next also a b = cc

-- two steps from the same are one
one_move : (asked : Asked) (stage : Stage) (wire : Wire) (next also : Stage) (new other : Wire) → Moves asked stage wire next new → Moves asked stage wire also other → (next ≡ also) × (new ≡ other)
one_move asked stage wire next also new other (commands {payload = payload} is short) (commands {payload = second} too fits) =
    let same = same_commanding (doing asked stage) payload second next also is too in
    (same.1, ap (λ (l : List ℕ). after_sent 0 l wire) same.0)
one_move asked stage wire next also new other (commands is short) (answers too fits) = absurd (cc)
one_move asked stage wire next also new other (commands is short) (hears too second goes_on turns) = absurd (cc)
one_move asked stage wire next also new other (answers is short) (commands too fits) = absurd (cc)
one_move asked stage wire next also new other (answers {payload = payload} is short) (answers {payload = second} too fits) =
    let same = same_answering (doing asked stage) payload second next also is too in
    (same.1, ap (λ (l : List ℕ). after_sent wire.id l wire) same.0)
one_move asked stage wire next also new other (answers is short) (hears too second goes_on turns) = absurd (cc)
one_move asked stage wire next also new other (hears is first goes_on turns) (commands too fits) = absurd (cc)
one_move asked stage wire next also new other (hears is first goes_on turns) (answers too fits) = absurd (cc)
one_move asked stage wire next also new other (hears {message = message} is first goes_on turns) (hears {message = second} too later goes_on_too turns_too) =
    let same = (one_next wire).one_message message second new other first later in
    (same_stage (stage_after stage message) next also turns (ap (λ (m : List ℕ). stage_after stage m) same.0 ∙ turns_too), same.1)

-- the steps that lead to an end
data Onward (asked : Asked) (end : Stage) (last : Wire) : Stage → Wire → Type 0 where
  here : Onward asked end last end last
  step : {stage next : Stage} {wire new : Wire} → Moves asked stage wire next new → Onward asked end last next new → Onward asked end last stage wire

onward : (asked : Asked) (start : Wire) (end : Stage) (last : Wire) (stage : Stage) (wire : Wire) → Comes asked start stage wire → Onward asked end last stage wire → Onward asked end last awaits_greeting start
onward asked start end last stage wire at_start on = on
onward asked start end last stage wire (commanded {stage = before} {wire = old} comes is short) on = onward asked start end last before old comes (step (commands is short) on)
onward asked start end last stage wire (answered {stage = before} {wire = old} comes is short) on = onward asked start end last before old comes (step (answers is short) on)
onward asked start end last stage wire (heard {stage = before} {wire = old} comes is first goes_on turns) on = onward asked start end last before old comes (step (hears is first goes_on turns) on)

-- the dump doesn't go on
abbrev Rests : Asked → Stage → Wire → Type 0
Rests asked stage wire = (next : Stage) (new : Wire) → ¬ Moves asked stage wire next new

moved : (asked : Asked) (stage again : Stage) (wire seen : Wire) (next : Stage) (new : Wire) → stage ≡ again → wire ≡ seen → Moves asked again seen next new → Moves asked stage wire next new
moved asked stage again wire seen next new same_stage same_wire moves = subst (λ (s : Stage). Moves asked s wire next new) (sym same_stage) (subst (λ (w : Wire). Moves asked again w next new) (sym same_wire) moves)

-- two ways from the same to where they rest end at the same
meet : (asked : Asked) (end other : Stage) (last final : Wire) (stage again : Stage) (wire seen : Wire) → Rests asked end last → Rests asked other final → stage ≡ again → wire ≡ seen → Onward asked end last stage wire → Onward asked other final again seen → (end ≡ other) × (last ≡ final)
meet asked end other last final stage again wire seen rests stays same_stage same_wire here here = (same_stage, same_wire)
meet asked end other last final stage again wire seen rests stays same_stage same_wire here (step {next = next} {new = new} moves on) = absurd (rests next new (moved asked stage again wire seen next new same_stage same_wire moves))
meet asked end other last final stage again wire seen rests stays same_stage same_wire (step {next = next} {new = new} moves on) here = absurd (stays next new (moved asked again stage seen wire next new (sym same_stage) (sym same_wire) moves))
meet asked end other last final stage again wire seen rests stays same_stage same_wire (step {next = next} {new = new} moves on) (step {next = later} {new = also} too on_too) =
    let same = one_move asked stage wire next later new also moves (moved asked stage again wire seen later also same_stage same_wire too) in
    meet asked end other last final next later new also rests stays same.0 same.1 on on_too

met : (asked : Asked) (start : Wire) (end other : Stage) (last final : Wire) → Rests asked end last → Rests asked other final → Comes asked start end last → Comes asked start other final → (end ≡ other) × (last ≡ final)
met asked start end other last final rests stays comes also = meet asked end other last final awaits_greeting awaits_greeting start start rests stays refl refl (onward asked start end last end last comes here) (onward asked start other final other final also here)

-- ---- where a dump rests

over_rests : (asked : Asked) (columns : List Column) (rows : List (List Cell)) (wire : Wire) → Rests asked (is_over columns rows) wire
over_rests asked columns rows wire next new (commands is short) = absurd (cc)
over_rests asked columns rows wire next new (answers is short) = absurd (cc)
over_rests asked columns rows wire next new (hears is first goes_on turns) = absurd (cc)

none_is_some : {A : Type 0} (found : Option A) (value : A) → found ≡ None → found ≡ Some value → ⊥
none_is_some found value none some = cc

ends_at_rests : (asked : Asked) (stage : Stage) (awaited : Awaited) (wire : Wire) (fault : SessionFault) → doing asked stage ≡ awaiting awaited → EndsAt stage awaited wire fault → Rests asked stage wire
ends_at_rests asked stage awaited wire fault awaits ends next new (commands is short) = absurd (cc)
ends_at_rests asked stage awaited wire fault awaits ends next new (answers is short) = absurd (cc)
ends_at_rests asked stage awaited wire fault awaits (at_message {new = old} why) next new (hears {message = message} {awaited = also} is first goes_on turns) =
    let same = (one_next wire).one_message message why.message new old first why.heard in
    none_is_some (fault_at also wire.place message) fault goes_on (ap (λ (a : Awaited). fault_at a wire.place message) (same_awaiting (doing asked stage) also awaited is awaits) ∙ ap (λ (m : List ℕ). fault_at awaited wire.place m) same.0 ∙ why.fault_is)
ends_at_rests asked stage awaited wire fault awaits (at_unfit why) next new (hears {message = message} is first goes_on turns) =
    let same = (one_next wire).one_message message why.message new why.new first why.hears in
    none_is_some (stage_after stage message) next (ap (λ (m : List ℕ). stage_after stage m) same.0 ∙ why.unfit) turns
ends_at_rests asked stage awaited wire fault awaits (at_disorder why) next new (hears {message = message} is first goes_on turns) = (one_next wire).message_in_order message new first why
ends_at_rests asked stage awaited wire fault awaits (at_length {size = size} why) next new (hears {message = message} is first goes_on turns) = (one_next wire).message_is_short message new size first why
ends_at_rests asked stage awaited wire fault awaits (at_limit why) next new (hears {message = message} is first goes_on turns) = (one_next wire).message_ends message new first why

overlong_not : (payload other : List ℕ) (size : ℕ) → other ≡ payload → size ≡ length payload → MESSAGE_LIMIT < size → length other ≤ MESSAGE_LIMIT → ⊥
overlong_not payload other size same is long short = let e : length other ≡ length payload = ap length same in absurd (omega arith)

overlong_rests : (asked : Asked) (stage : Stage) (wire : Wire) (size : ℕ) → IsOverlong asked stage size → Rests asked stage wire
overlong_rests asked stage wire size why next new (commands {payload = other} is short) = elim why.sends [
  | inl sends ↦ overlong_not why.payload other size (same_commanding (doing asked stage) other why.payload next why.next is sends).0 why.size_is why.long short
  | inr sends ↦ absurd (cc)
]
overlong_rests asked stage wire size why next new (answers {payload = other} is short) = elim why.sends [
  | inl sends ↦ absurd (cc)
  | inr sends ↦ overlong_not why.payload other size (same_answering (doing asked stage) other why.payload next why.next is sends).0 why.size_is why.long short
]
overlong_rests asked stage wire size why next new (hears is first goes_on turns) = elim why.sends [
  | inl sends ↦ absurd (cc)
  | inr sends ↦ absurd (cc)
]

-- ---- two ends at one place

some_is_one : (found : Option SessionFault) (fault other : SessionFault) → found ≡ Some fault → found ≡ Some other → fault ≡ other
some_is_one found fault other a b = cc

one_ends_at : (stage : Stage) (awaited : Awaited) (wire : Wire) (fault other : SessionFault) → EndsAt stage awaited wire fault → EndsAt stage awaited wire other → fault ≡ other
one_ends_at stage awaited wire fault other (at_message {new = new} why) (at_message {new = old} too) =
    let same = (one_next wire).one_message why.message too.message new old why.heard too.heard in
    some_is_one (fault_at awaited wire.place why.message) fault other why.fault_is (ap (λ (m : List ℕ). fault_at awaited wire.place m) same.0 ∙ too.fault_is)
one_ends_at stage awaited wire fault other (at_message {new = new} why) (at_unfit too) =
    let same = (one_next wire).one_message why.message too.message new too.new why.heard too.hears in
    absurd (none_is_some (fault_at awaited wire.place why.message) fault (ap (λ (m : List ℕ). fault_at awaited wire.place m) same.0 ∙ too.goes_on) why.fault_is)
one_ends_at stage awaited wire fault other (at_message {new = new} why) (at_disorder too) = absurd ((one_next wire).message_in_order why.message new why.heard too)
one_ends_at stage awaited wire fault other (at_message {new = new} why) (at_length {size = size} too) = absurd ((one_next wire).message_is_short why.message new size why.heard too)
one_ends_at stage awaited wire fault other (at_message {new = new} why) (at_limit too) = absurd ((one_next wire).message_ends why.message new why.heard too)
one_ends_at stage awaited wire fault other (at_unfit why) (at_message {new = old} too) =
    let same = (one_next wire).one_message why.message too.message why.new old why.hears too.heard in
    absurd (none_is_some (fault_at awaited wire.place too.message) other (ap (λ (m : List ℕ). fault_at awaited wire.place m) (sym same.0) ∙ why.goes_on) too.fault_is)
one_ends_at stage awaited wire fault other (at_unfit why) (at_unfit too) = refl
one_ends_at stage awaited wire fault other (at_unfit why) (at_disorder too) = refl
one_ends_at stage awaited wire fault other (at_unfit why) (at_length {size = size} too) = absurd ((one_next wire).message_is_short why.message why.new size why.hears too)
one_ends_at stage awaited wire fault other (at_unfit why) (at_limit too) = absurd ((one_next wire).message_ends why.message why.new why.hears too)
one_ends_at stage awaited wire fault other (at_disorder why) (at_message {new = old} too) = absurd ((one_next wire).message_in_order too.message old too.heard why)
one_ends_at stage awaited wire fault other (at_disorder why) (at_unfit too) = refl
one_ends_at stage awaited wire fault other (at_disorder why) (at_disorder too) = refl
one_ends_at stage awaited wire fault other (at_disorder why) (at_length {size = size} too) = absurd ((one_next wire).disorder_is_not_long size why too)
one_ends_at stage awaited wire fault other (at_disorder why) (at_limit too) = absurd ((one_next wire).disorder_ends why too)
one_ends_at stage awaited wire fault other (at_length {size = size} why) (at_message {new = old} too) = absurd ((one_next wire).message_is_short too.message old size too.heard why)
one_ends_at stage awaited wire fault other (at_length {size = size} why) (at_unfit too) = absurd ((one_next wire).message_is_short too.message too.new size too.hears why)
one_ends_at stage awaited wire fault other (at_length {size = size} why) (at_disorder too) = absurd ((one_next wire).disorder_is_not_long size too why)
one_ends_at stage awaited wire fault other (at_length {size = size} why) (at_length {size = more} too) = ap (λ (n : ℕ). TooLong n) ((one_next wire).one_size size more why too)
one_ends_at stage awaited wire fault other (at_length {size = size} why) (at_limit too) = absurd ((one_next wire).long_ends size why too)
one_ends_at stage awaited wire fault other (at_limit why) (at_message {new = old} too) = absurd ((one_next wire).message_ends too.message old too.heard why)
one_ends_at stage awaited wire fault other (at_limit why) (at_unfit too) = absurd ((one_next wire).message_ends too.message too.new too.hears why)
one_ends_at stage awaited wire fault other (at_limit why) (at_disorder too) = absurd ((one_next wire).disorder_ends too why)
one_ends_at stage awaited wire fault other (at_limit why) (at_length {size = size} too) = absurd ((one_next wire).long_ends size too why)
one_ends_at stage awaited wire fault other (at_limit why) (at_limit too) = refl

one_overlong : (asked : Asked) (stage again : Stage) (size more : ℕ) → stage ≡ again → IsOverlong asked stage size → IsOverlong asked again more → size ≡ more
one_overlong asked stage again size more same why too =
    let is : doing asked stage ≡ doing asked again = ap (λ (s : Stage). doing asked s) same in
    let payloads : why.payload ≡ too.payload = elim why.sends [
      | inl sends ↦ elim too.sends [ inl also ↦ (same_commanding (doing asked stage) why.payload too.payload why.next too.next sends (is ∙ also)).0 | inr also ↦ absurd (cc) ]
      | inr sends ↦ elim too.sends [ inl also ↦ absurd (cc) | inr also ↦ (same_answering (doing asked stage) why.payload too.payload why.next too.next sends (is ∙ also)).0 ]
    ] in
    why.size_is ∙ ap length payloads ∙ sym too.size_is

awaits_not_sends : (asked : Asked) (stage again : Stage) (awaited : Awaited) (size : ℕ) → stage ≡ again → doing asked stage ≡ awaiting awaited → IsOverlong asked again size → ⊥
awaits_not_sends asked stage again awaited size same awaits why =
    let is : doing asked stage ≡ doing asked again = ap (λ (s : Stage). doing asked s) same in
    elim why.sends [ inl sends ↦ (let a = is ∙ sends in cc) | inr sends ↦ (let a = is ∙ sends in cc) ]

module _ (asked : Asked) (start : Wire) where
  one_end : (fault other : SessionFault) → EndsWith asked start fault → EndsWith asked start other → fault ≡ other
  one_end fault other (awaiting_it {stage = stage} {wire = wire} {awaited = awaited} comes is ends) (awaiting_it {stage = again} {wire = seen} {awaited = also} comes_too is_too ends_too) =
      let there = met asked start stage again wire seen (ends_at_rests asked stage awaited wire fault is ends) (ends_at_rests asked again also seen other is_too ends_too) comes comes_too in
      let same = same_awaiting (doing asked stage) awaited also is (ap (λ (s : Stage). doing asked s) there.0 ∙ is_too) in
      one_ends_at stage awaited wire fault other ends (subst (λ (s : Stage). EndsAt s awaited wire other) (sym there.0) (subst (λ (a : Awaited). EndsAt again a wire other) (sym same) (subst (λ (w : Wire). EndsAt again also w other) (sym there.1) ends_too)))
  one_end fault other (awaiting_it {stage = stage} {wire = wire} {awaited = awaited} comes is ends) (sending_it {stage = again} {wire = seen} {size = size} comes_too long fault_is) =
      let there = met asked start stage again wire seen (ends_at_rests asked stage awaited wire fault is ends) (overlong_rests asked again seen size long) comes comes_too in
      absurd (awaits_not_sends asked stage again awaited size there.0 is long)
  one_end fault other (sending_it {stage = stage} {wire = wire} {size = size} comes long fault_is) (awaiting_it {stage = again} {wire = seen} {awaited = also} comes_too is_too ends_too) =
      let there = met asked start again stage seen wire (ends_at_rests asked again also seen other is_too ends_too) (overlong_rests asked stage wire size long) comes_too comes in
      absurd (awaits_not_sends asked again stage also size there.0 is_too long)
  one_end fault other (sending_it {stage = stage} {wire = wire} {size = size} comes long fault_is) (sending_it {stage = again} {wire = seen} {size = more} comes_too long_too other_is) =
      let there = met asked start stage again wire seen (overlong_rests asked stage wire size long) (overlong_rests asked again seen more long_too) comes comes_too in
      fault_is ∙ ap (λ (n : ℕ). TooLong n) (one_overlong asked stage again size more there.0 long long_too) ∙ sym other_is

  one_whole : (columns others : List Column) (rows more : List (List Cell)) → IsWhole asked columns rows start → IsWhole asked others more start → (columns ≡ others) × (rows ≡ more)
  one_whole columns others rows more is also =
      let there = met asked start (is_over columns rows) (is_over others more) is.wire also.wire (over_rests asked columns rows is.wire) (over_rests asked others more also.wire) is.comes also.comes in
      let same = there.0 in
      (cc, cc)

  over_not_ends : (columns : List Column) (rows : List (List Cell)) (fault : SessionFault) → IsWhole asked columns rows start → ¬ EndsWith asked start fault
  over_not_ends columns rows fault is (awaiting_it {stage = stage} {wire = wire} {awaited = awaited} comes awaits ends) =
      let there = met asked start (is_over columns rows) stage is.wire wire (over_rests asked columns rows is.wire) (ends_at_rests asked stage awaited wire fault awaits ends) is.comes comes in
      let none : nothing ≡ awaiting awaited = ap (λ (s : Stage). doing asked s) there.0 ∙ awaits in
      cc
  over_not_ends columns rows fault is (sending_it {stage = stage} {wire = wire} {size = size} comes long fault_is) =
      let there = met asked start (is_over columns rows) stage is.wire wire (over_rests asked columns rows is.wire) (overlong_rests asked stage wire size long) is.comes comes in
      let none : nothing ≡ doing asked stage = ap (λ (s : Stage). doing asked s) there.0 in
      elim long.sends [ inl sends ↦ (let a = none ∙ sends in cc) | inr sends ↦ (let a = none ∙ sends in cc) ]

pub one_outcome : (asked : Asked) (start : Wire) → HasOneOutcome asked start
one_outcome asked start = record {
  one_whole = one_whole asked start;
  one_end = one_end asked start;
  whole_does_not_end = over_not_ends asked start;
}
