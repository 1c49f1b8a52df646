-- What a skim was fed, a piece at a time.
use Rattle.std.proofs.Common.{◌≡◌, ◌≢◌, ◌<◌, ◌≤◌, ℕ, zero, suc, ◌+◌, ◌-◌, ◌*◌, ◌/◌, ◌%◌, List, [], ◌∷◌, ◌++◌, length, take, refl, sym, ap, ◌∙◌, arith, subst, append_assoc, length-append, min, inl, Some, None, Ok, Err}
use Rattle.std.proofs.lemmas.Bool.Decides.{nat_tests}
use Rattle.std.proofs.Math.Seq.{take-append-add}
use Rattle.std.proofs.lemmas.List.{append-nil, nil_from_length, length-take-le, take_min, take_all}
use Rattle.my_packets.proofs.Fronts.{one_front, one_place, long_ends, same_packets, FullHere}
use Rattle.my_packets.proofs.Passes.{part_is_wanted, wrong_settles}
use Rattle.my_packets.proofs.Splits.{add_full, add_last}
use Rattle.my_packets.specs.Begins.{IsWrong}
use Rattle.my_packets.specs.Front.{HasMessage, HasFull, HasWrongId, IsTooLong, IsPart, Wants}
use Rattle.wire_forms.specs.Packet.{packet, packet_header, next_id, id_after, packets, full_packets, missing, HasHeader}
use Rattle.my_packets.specs.Skimmed.{Skimmed}
use Rattle.my_packets.specs.Skims.{Skims, IsAt, IsInHeader, IsInPacket, IsReadWhole, IsBroken, Feeds, wanted, wanted_at, skim_fault, fault_of}
use Rattle.my_packets.specs.declared.frames.FrameFault.{FrameFault}
use Rattle.my_packets.specs.declared.frames.FrameFault.TheVariants.{BadSequence, TooLong}
use Rattle.my_packets.specs.declared.skim.Stage.{Stage}
use Rattle.my_packets.specs.declared.skim.Stage.TheVariants.{Header, Packet, Whole, Wrong}

-- a place that is filled from after its first bytes
pub filled : (place piece ys : List ℕ) (size count : ℕ) → size ≤ length place → count ≡ min (length piece) (length place - size) → ys ≡ take count piece → take size place ++ ys ≡ take (length place) (take size place ++ piece)
filled place piece ys size count inside count_is ys_is =
    let front = take size place in
    let front_is : length front ≡ size = length-take-le size place inside in
    let room = length place - size in
    let whole : length place ≡ length front + room = omega arith in
    let count_min : count ≡ min room (length piece) = omega arith in
    ap (λ (l : List ℕ). front ++ l) (ys_is ∙ ap (λ (n : ℕ). take n piece) count_min ∙ take_min room piece)
    ∙ sym (take-append-add front piece room) ∙ ap (λ (n : ℕ). take n (front ++ piece)) (sym whole)

pub filled_all : (place now piece : List ℕ) (size result room : ℕ) → length place ≡ room → size ≤ room → take result now ≡ take (length place) (take size place ++ piece) → result ≡ min (length place) (size + length piece) → length (take size place) + length piece ≤ room → (take result now ≡ take size place ++ piece) × (length (take result now) ≡ result)
filled_all place now piece size result room room_is inside now_is result_is fits =
    let front_is : length (take size place) ≡ size = length-take-le size place (omega arith) in
    let all = length-append (take size place) piece in
    let now_all : take result now ≡ take size place ++ piece = now_is ∙ take_all (length place) (take size place ++ piece) (omega arith) in
    let size_is : length (take result now) ≡ length (take size place ++ piece) = ap (λ (l : List ℕ). length l) now_all in
    (now_all, omega arith)

-- a header that is whole announces its packet
has_header : (size id : ℕ) → size < 16777216 → HasHeader size id (packet_header size id)
has_header size id small = record {
  low = size % 256;
  middle = size / 256 % 256;
  high = size / 65536;
  rest = [];
  bytes_are = refl;
  size_is = omega arith;
}

-- more bytes at the end
more_after : (limit id count : ℕ) (payload bytes after piece : List ℕ) → HasFull limit id count payload bytes after → HasFull limit id count payload (bytes ++ piece) (after ++ piece)
more_after limit id count payload bytes after piece full = record {
  size_is = full.size_is;
  short = full.short;
  bytes_are = ap (λ (l : List ℕ). l ++ piece) full.bytes_are ∙ append_assoc (full_packets count id payload) after piece;
}

-- the first bytes of a list that grows
take_kept : (n : ℕ) (front more : List ℕ) → take n (take n front ++ more) ≡ take n (front ++ more)
take_kept zero front more = refl
take_kept (suc n) [] more = refl
take_kept (suc n) (x ∷ front) more = ap (λ (l : List ℕ). x ∷ l) (take_kept n front more)

-- bytes are missing of a header, and of a packet
missing_header : (room id : ℕ) (header : List ℕ) → length header < 4 → missing room id header ≡ 4 - length header
missing_header room id [] less = refl
missing_header room id (low ∷ []) less = refl
missing_header room id (low ∷ middle ∷ []) less = refl
missing_header room id (low ∷ middle ∷ high ∷ []) less = refl
missing_header room id (low ∷ middle ∷ high ∷ found ∷ rest) less = absurd (omega arith)

missing_packet : (room id size left : ℕ) (part : List ℕ) → size < 16777216 → size ≤ room → length part + left ≡ size → missing room id (packet_header size id ++ part) ≡ left
missing_packet room id size left part small fits there =
    let back : size % 256 + 256 * (size / 256 % 256) + 65536 * (size / 65536) ≡ size = omega arith in
    grind (arith, nat_tests)

header_is_part : (seq limit : ℕ) (fed : List ℕ) (skim : Skimmed) → (at : IsInHeader seq limit fed skim) → IsPart limit seq (4 - length skim.header) fed
header_is_part seq limit fed skim at =
    let less = at.less in
    record {
      count = at.count;
      payload = at.payload;
      after = skim.header;
      full = at.full;
      missing_is = sym (missing_header (limit - length at.payload) (id_after at.count seq) skim.header less);
      some = omega arith;
    }

packet_is_part : (seq limit size left : ℕ) (fed : List ℕ) (skim : Skimmed) → (at : IsInPacket seq limit size left fed skim) → IsPart limit seq left fed
packet_is_part seq limit size left fed skim at =
    let small = at.small in
    let fits = at.fits in
    record {
      count = at.count;
      payload = at.payload;
      after = packet_header size skim.id ++ at.part;
      full = at.full;
      missing_is = sym (missing_packet (limit - length at.payload) (id_after at.count seq) size left at.part (omega arith) (omega arith) at.there) ∙ ap (λ (n : ℕ). missing (limit - length at.payload) (id_after at.count seq) (packet_header size n ++ at.part)) (sym at.id);
      some = at.some;
    }

-- where no packet is wrong, none is
part_is_right : (limit seq more : ℕ) (fed : List ℕ) (fault : FrameFault) → IsPart limit seq more fed → ¬ IsWrong limit seq fed fault
part_is_right limit seq more fed (BadSequence found wanted) part wrong = (one_front limit seq fed).wrong_is_whole found wanted more wrong part
part_is_right limit seq more fed (TooLong size) part wrong = (one_front limit seq fed).long_is_whole size more wrong part

whole_is_right : (limit seq : ℕ) (message fed after : List ℕ) (fault : FrameFault) → HasMessage limit seq message fed after → ¬ IsWrong limit seq fed fault
whole_is_right limit seq message fed after (BadSequence found wanted) whole wrong = (one_front limit seq fed).message_is_right found wanted message after whole wrong
whole_is_right limit seq message fed after (TooLong size) whole wrong = (one_front limit seq fed).message_is_short size message after whole wrong

at_is_right : (seq limit : ℕ) (fed : List ℕ) (skim : Skimmed) (stage : Stage) → IsAt seq limit fed skim stage → skim_fault stage ≡ None → (fault : FrameFault) → ¬ IsWrong limit seq fed fault
at_is_right seq limit fed skim Header at none fault wrong = part_is_right limit seq (4 - length skim.header) fed fault (header_is_part seq limit fed skim at) wrong
at_is_right seq limit fed skim (Packet size left) at none fault wrong = part_is_right limit seq left fed fault (packet_is_part seq limit size left fed skim at) wrong
at_is_right seq limit fed skim Whole at none fault wrong = whole_is_right limit seq at.message fed [] fault at.whole wrong
at_is_right seq limit fed skim (Wrong other) at none fault wrong = absurd (cc)

at_is_wrong : (seq limit : ℕ) (fed : List ℕ) (skim : Skimmed) (stage : Stage) (fault : FrameFault) → IsAt seq limit fed skim stage → skim_fault stage ≡ Some fault → IsWrong limit seq fed fault
at_is_wrong seq limit fed skim Header fault at is = absurd (cc)
at_is_wrong seq limit fed skim (Packet size left) fault at is = absurd (cc)
at_is_wrong seq limit fed skim Whole fault at is = absurd (cc)
at_is_wrong seq limit fed skim (Wrong other) fault at is = let same : other ≡ fault = cc in subst (λ (f : FrameFault). IsWrong limit seq fed f) same at.why

-- nothing is wanted where a skim stands at a fault
spent_at : (stage : Stage) (header : List ℕ) (fault : FrameFault) → skim_fault stage ≡ Some fault → wanted_at stage header ≡ 0
spent_at Header header fault is = absurd (cc)
spent_at (Packet size left) header fault is = absurd (cc)
spent_at Whole header fault is = refl
spent_at (Wrong other) header fault is = refl

-- that a piece follows those before
abbrev Follows : Skimmed → List ℕ → Skimmed → Type 0
Follows old piece new = (seq limit : ℕ) (fed : List ℕ) → Skims seq limit fed old → Skims seq limit (fed ++ piece) new

pub feeds_right : (old new : Skimmed) (piece : List ℕ) → fault_of old ≡ None → fault_of new ≡ None → Follows old piece new → Feeds old piece (Ok tt) new
feeds_right old new piece before none follows = record {
  follows = follows;
  right = λ seq limit fed skims fault. at_is_right seq limit (fed ++ piece) new new.stage (follows seq limit fed skims).at none fault;
  wrong = tt;
  stands = none;
  spent = tt;
  again = λ fault is. absurd (let e : None ≡ Some fault = sym before ∙ is in cc);
}

pub feeds_wrong : (old new : Skimmed) (piece : List ℕ) (fault : FrameFault) → fault_of old ≡ None → fault_of new ≡ Some fault → Follows old piece new → Feeds old piece (Err fault) new
feeds_wrong old new piece fault before is follows = record {
  follows = follows;
  right = tt;
  wrong = λ seq limit fed skims. at_is_wrong seq limit (fed ++ piece) new new.stage fault (follows seq limit fed skims).at is;
  stands = is;
  spent = spent_at new.stage new.header fault is;
  again = λ other was. absurd (let e : None ≡ Some other = sym before ∙ was in cc);
}

-- nothing is fed to a skim that wants nothing
nothing_follows : (skim : Skimmed) (piece : List ℕ) → length piece ≤ 0 → Follows skim piece skim
nothing_follows skim piece none seq limit fed skims =
    let empty : piece ≡ [] = nil_from_length piece (omega arith) in
    let same : fed ++ piece ≡ fed = ap (λ (l : List ℕ). fed ++ l) empty ∙ append-nil fed in
    subst (λ (l : List ℕ). Skims seq limit l skim) (sym same) skims

pub feeds_whole : (skim : Skimmed) (piece : List ℕ) → skim.stage ≡ Whole → length piece ≤ 0 → Feeds skim piece (Ok tt) skim
feeds_whole skim piece stage none =
    let right : fault_of skim ≡ None = ap skim_fault stage in
    feeds_right skim skim piece right right (nothing_follows skim piece none)

pub feeds_broken : (skim : Skimmed) (piece : List ℕ) (fault : FrameFault) → skim.stage ≡ Wrong fault → length piece ≤ 0 → Feeds skim piece (Err fault) skim
feeds_broken skim piece fault stage none =
    let is : fault_of skim ≡ Some fault = ap skim_fault stage in
    let follows = nothing_follows skim piece none in
    record {
      follows = follows;
      right = tt;
      wrong = λ seq limit fed skims. at_is_wrong seq limit (fed ++ piece) skim skim.stage fault (follows seq limit fed skims).at is;
      stands = is;
      spent = spent_at skim.stage skim.header fault is;
      again = λ other was. (ap (λ (f : FrameFault). Err f) (let e : Some fault ≡ Some other = sym is ∙ was in cc), refl);
    }

-- bytes of a header
module _ (old : Skimmed) (piece header : List ℕ) (stage : old.stage ≡ Header) (header_is : header ≡ old.header ++ piece) where
  before : fault_of old ≡ None
  before = ap skim_fault stage

  in_header : (seq limit : ℕ) (fed : List ℕ) → Skims seq limit fed old → IsInHeader seq limit fed old
  in_header seq limit fed skims = subst (λ (s : Stage). IsAt seq limit fed old s) stage skims.at

  full_then : (seq limit : ℕ) (fed : List ℕ) → (at : IsInHeader seq limit fed old) → HasFull limit seq at.count at.payload (fed ++ piece) header
  full_then seq limit fed at = subst (λ (l : List ℕ). HasFull limit seq at.count at.payload (fed ++ piece) l) (sym header_is) (more_after limit seq at.count at.payload fed old.header piece at.full)

  pub feeds_less : length header < 4 → Feeds old piece (Ok tt) (record old { header = header })
  feeds_less less =
      feeds_right old (record old { header = header }) piece before before
      (λ seq limit fed skims.
      let at = in_header seq limit fed skims in
      record {
        limit_is = skims.limit_is;
        at = subst (λ (s : Stage). IsAt seq limit (fed ++ piece) (record old { header = header }) s) (sym stage) record {
          count = at.count;
          payload = at.payload;
          full = full_then seq limit fed at;
          less = less;
          kept = at.kept;
          total = at.total;
          id = at.id;
        };
      })

  module _ (size id : ℕ) (small : size < 16777216) (whole : header ≡ packet_header size id) where
    full_header : (seq limit : ℕ) (fed : List ℕ) → (at : IsInHeader seq limit fed old) → HasFull limit seq at.count at.payload (fed ++ piece) (packet_header size id)
    full_header seq limit fed at = subst (λ (l : List ℕ). HasFull limit seq at.count at.payload (fed ++ piece) l) whole (full_then seq limit fed at)

    pub feeds_other : id ≢ old.id → Feeds old piece (Err (BadSequence id old.id)) (record old { stage = Wrong (BadSequence id old.id); header = header })
    feeds_other other =
        feeds_wrong old (record old { stage = Wrong (BadSequence id old.id); header = header }) piece (BadSequence id old.id) before refl
        (λ seq limit fed skims.
        let at = in_header seq limit fed skims in
        record {
          limit_is = skims.limit_is;
          at = record {
            why = record {
              count = at.count;
              size = size;
              payload = at.payload;
              after = packet_header size id;
              full = full_header seq limit fed at;
              header = has_header size id small;
              wanted_is = at.id;
              other = other;
            };
            count = at.count;
            payload = at.payload;
            header = packet_header size id;
            full = full_header seq limit fed at;
            ends = refl;
          };
        })

    pub feeds_past : (over : ℕ) → id ≡ old.id → over ≡ old.total + size → old.limit < over → Feeds old piece (Err (TooLong over)) (record old { stage = Wrong (TooLong over); header = header })
    feeds_past over same over_is past =
        feeds_wrong old (record old { stage = Wrong (TooLong over); header = header }) piece (TooLong over) before refl
        (λ seq limit fed skims.
        let at = in_header seq limit fed skims in
        let limit_is = skims.limit_is in
        let total_is = at.total in
        record {
          limit_is = skims.limit_is;
          at = record {
            why = record {
              count = at.count;
              last = size;
              payload = at.payload;
              after = packet_header size id;
              full = full_header seq limit fed at;
              header = subst (λ (n : ℕ). HasHeader size n (packet_header size id)) (same ∙ at.id) (has_header size id small);
              size_is = omega arith;
              more = omega arith;
            };
            count = at.count;
            payload = at.payload;
            header = packet_header size id;
            full = full_header seq limit fed at;
            ends = refl;
          };
        })

    pub feeds_empty : id ≡ old.id → size ≡ 0 → Feeds old piece (Ok tt) (record old { stage = Whole; header = header })
    feeds_empty same none =
        feeds_right old (record old { stage = Whole; header = header }) piece before refl
        (λ seq limit fed skims.
        let at = in_header seq limit fed skims in
        let short = at.full.short in
        record {
          limit_is = skims.limit_is;
          at = record {
            message = at.payload ++ [];
            whole = add_last limit seq at.count at.payload (fed ++ piece) (packet_header size id) [] [] (full_header seq limit fed at)
                (ap (λ (n : ℕ). packet_header n id) none ∙ ap (λ (n : ℕ). packet_header 0 n) (same ∙ at.id)) (omega arith) (omega arith);
            kept = at.kept ∙ ap (λ (l : List ℕ). take 1024 l) (sym (append-nil at.payload));
          };
        })

    pub feeds_packet : id ≡ old.id → old.total + size ≤ old.limit → 0 < size → Feeds old piece (Ok tt) (record old { stage = Packet size size; header = header; total = old.total + size })
    feeds_packet same fits some =
        feeds_right old (record old { stage = Packet size size; header = header; total = old.total + size }) piece before refl
        (λ seq limit fed skims.
        let at = in_header seq limit fed skims in
        let limit_is = skims.limit_is in
        let total_is = at.total in
        record {
          limit_is = skims.limit_is;
          at = record {
            count = at.count;
            payload = at.payload;
            part = [];
            full = subst (λ (n : ℕ). HasFull limit seq at.count at.payload (fed ++ piece) (packet_header size n)) same (full_header seq limit fed at);
            small = omega arith;
            fits = omega arith;
            there = omega arith;
            some = some;
            kept = at.kept ∙ ap (λ (l : List ℕ). take 1024 l) (sym (append-nil at.payload));
            total = omega arith;
            id = at.id;
          };
        })

-- bytes of a packet
module _ (old : Skimmed) (piece kept : List ℕ) (size left : ℕ) (stage : old.stage ≡ Packet size left) (kept_is : kept ≡ take 1024 (old.kept ++ piece)) where
  none_before : fault_of old ≡ None
  none_before = ap skim_fault stage

  in_packet : (seq limit : ℕ) (fed : List ℕ) → Skims seq limit fed old → IsInPacket seq limit size left fed old
  in_packet seq limit fed skims = subst (λ (s : Stage). IsAt seq limit fed old s) stage skims.at

  kept_then : (seq limit : ℕ) (fed : List ℕ) → (at : IsInPacket seq limit size left fed old) → kept ≡ take 1024 (at.payload ++ (at.part ++ piece))
  kept_then seq limit fed at =
      kept_is ∙ ap (λ (l : List ℕ). take 1024 (l ++ piece)) at.kept ∙ take_kept 1024 (at.payload ++ at.part) piece
      ∙ ap (λ (l : List ℕ). take 1024 l) (append_assoc at.payload at.part piece)

  full_part : (seq limit : ℕ) (fed : List ℕ) → (at : IsInPacket seq limit size left fed old) → HasFull limit seq at.count at.payload (fed ++ piece) (packet_header size old.id ++ (at.part ++ piece))
  full_part seq limit fed at = more_after limit seq at.count at.payload fed (packet_header size old.id ++ at.part) piece at.full

  -- the packet with its last bytes
  whole_part : (seq limit : ℕ) (fed : List ℕ) → (at : IsInPacket seq limit size left fed old) → left ≡ length piece → packet_header size old.id ++ (at.part ++ piece) ≡ packet (id_after at.count seq) (at.part ++ piece) ++ []
  whole_part seq limit fed at last =
      let there = at.there in
      let all = length-append at.part piece in
      let size_is : size ≡ length (at.part ++ piece) = omega arith in
      ap (λ (n : ℕ). packet_header n old.id ++ (at.part ++ piece)) size_is
      ∙ ap (λ (n : ℕ). packet_header (length (at.part ++ piece)) n ++ (at.part ++ piece)) at.id
      ∙ sym (append-nil (packet (id_after at.count seq) (at.part ++ piece)))

  pub feeds_part : (missing : ℕ) → missing ≡ left - length piece → 0 < missing → Feeds old piece (Ok tt) (record old { kept = kept; stage = Packet size missing })
  feeds_part missing missing_is some =
      feeds_right old (record old { kept = kept; stage = Packet size missing }) piece none_before refl
      (λ seq limit fed skims.
      let at = in_packet seq limit fed skims in
      let there = at.there in
      let all = length-append at.part piece in
      record {
        limit_is = skims.limit_is;
        at = record {
          count = at.count;
          payload = at.payload;
          part = at.part ++ piece;
          full = full_part seq limit fed at;
          small = at.small;
          fits = at.fits;
          there = omega arith;
          some = some;
          kept = kept_then seq limit fed at;
          total = at.total;
          id = at.id;
        };
      })

  pub feeds_last : left ≡ length piece → size < 16777215 → Feeds old piece (Ok tt) (record old { kept = kept; stage = Whole })
  feeds_last last short =
      feeds_right old (record old { kept = kept; stage = Whole }) piece none_before refl
      (λ seq limit fed skims.
      let at = in_packet seq limit fed skims in
      let there = at.there in
      let fits = at.fits in
      let all = length-append at.part piece in
      record {
        limit_is = skims.limit_is;
        at = record {
          message = at.payload ++ (at.part ++ piece);
          whole = add_last limit seq at.count at.payload (fed ++ piece) (packet_header size old.id ++ (at.part ++ piece)) (at.part ++ piece) [] (full_part seq limit fed at) (whole_part seq limit fed at last) (omega arith) (omega arith);
          kept = kept_then seq limit fed at;
        };
      })

  pub feeds_full : left ≡ length piece → 16777215 ≤ size → Feeds old piece (Ok tt) (record old { kept = kept; stage = Header; header = []; id = next_id old.id })
  feeds_full last long =
      feeds_right old (record old { kept = kept; stage = Header; header = []; id = next_id old.id }) piece none_before refl
      (λ seq limit fed skims.
      let at = in_packet seq limit fed skims in
      let there = at.there in
      let fits = at.fits in
      let small = at.small in
      let total_is = at.total in
      let id_is = at.id in
      let all = length-append at.part piece in
      let both = length-append at.payload (at.part ++ piece) in
      record {
        limit_is = skims.limit_is;
        at = record {
          count = suc at.count;
          payload = at.payload ++ (at.part ++ piece);
          full = add_full limit seq at.count at.payload (fed ++ piece) (packet_header size old.id ++ (at.part ++ piece)) (at.part ++ piece) [] (full_part seq limit fed at) (whole_part seq limit fed at last) (omega arith) (omega arith);
          less = omega arith;
          kept = kept_then seq limit fed at;
          total = omega arith;
          id = omega arith;
        };
      })

-- what a skim wants
wants_at : (seq limit : ℕ) (fed : List ℕ) (skim : Skimmed) (stage : Stage) → IsAt seq limit fed skim stage → Wants limit seq fed (wanted_at stage skim.header)
wants_at seq limit fed skim Header at = part_is_wanted limit seq (4 - length skim.header) fed (header_is_part seq limit fed skim at)
wants_at seq limit fed skim (Packet size left) at = part_is_wanted limit seq left fed (packet_is_part seq limit size left fed skim at)
wants_at seq limit fed skim Whole at = record {
  settled = λ none. inl (at.message, [], at.whole);
  part = λ some. absurd (omega arith);
}
wants_at seq limit fed skim (Wrong fault) at = wrong_settles limit seq fed fault at.why

pub wants_of : (seq limit : ℕ) (fed : List ℕ) (skim : Skimmed) → Skims seq limit fed skim → Wants limit seq fed (wanted skim)
wants_of seq limit fed skim skims = wants_at seq limit fed skim skim.stage skims.at

-- with a higher limit, bytes that are missing stay so
full_grows : (limit more id count : ℕ) (payload bytes after : List ℕ) → limit ≤ more → HasFull limit id count payload bytes after → HasFull more id count payload bytes after
full_grows limit more id count payload bytes after grows full =
    let short = full.short in
    record { size_is = full.size_is; short = omega arith; bytes_are = full.bytes_are }

missing_of_packet : (room more id low middle high found : ℕ) (rest : List ℕ) → room ≤ more → 0 < missing room id (low ∷ middle ∷ high ∷ found ∷ rest) → missing more id (low ∷ middle ∷ high ∷ found ∷ rest) ≡ missing room id (low ∷ middle ∷ high ∷ found ∷ rest)
missing_of_packet room more id low middle high found rest grows some = grind (arith, nat_tests)

missing_grows : (room more id : ℕ) (bytes : List ℕ) → room ≤ more → 0 < missing room id bytes → missing more id bytes ≡ missing room id bytes
missing_grows room more id [] grows some = refl
missing_grows room more id (low ∷ []) grows some = refl
missing_grows room more id (low ∷ middle ∷ []) grows some = refl
missing_grows room more id (low ∷ middle ∷ high ∷ []) grows some = refl
missing_grows room more id (low ∷ middle ∷ high ∷ found ∷ rest) grows some = missing_of_packet room more id low middle high found rest grows some

part_grows : (limit more id count : ℕ) (bytes : List ℕ) → limit ≤ more → IsPart limit id count bytes → IsPart more id count bytes
part_grows limit more id count bytes grows part =
    let some = part.some in
    let missing_is = part.missing_is in
    let after = part.after in
    let next = id_after part.count id in
    record {
      count = part.count;
      payload = part.payload;
      after = after;
      full = full_grows limit more id part.count part.payload bytes after grows part.full;
      missing_is = missing_is ∙ sym (missing_grows (limit - length part.payload) (more - length part.payload) next after (omega arith) (omega arith));
      some = some;
    }

-- where the last header announces more than the limit, its payload is missing
missing_all : (room id low middle high : ℕ) (rest : List ℕ) → length rest ≡ 0 → low + 256 * middle + 65536 * high ≤ room → missing room id (low ∷ middle ∷ high ∷ id ∷ rest) ≡ low + 256 * middle + 65536 * high
missing_all room id low middle high rest none fits = grind (arith, nat_tests)

-- less than a full packet stands after a header
no_full : (limit id count : ℕ) (header : List ℕ) → length header ≡ 4 → ¬ FullHere limit id count header
no_full limit id count header ends full =
    let there = full.there in
    let size : length header ≡ length (255 ∷ 255 ∷ 255 ∷ id_after count id ∷ full.rest) = ap (λ (l : List ℕ). length l) full.bytes_are in
    omega arith

past_is_part : (limit seq size : ℕ) (fed : List ℕ) (broken : IsBroken seq limit (TooLong size) fed) → IsPart size seq (size - length broken.payload) fed
past_is_part limit seq size fed broken =
    let why : IsTooLong limit seq size fed = broken.why in
    let at = one_place limit seq why.count broken.count why.payload broken.payload fed why.after broken.header why.full broken.full (long_ends limit seq size fed why) (no_full limit seq broken.count broken.header broken.ends) in
    let counts = at.0 in
    let header = why.header in
    let payload_is = why.full.size_is in
    let broken_is = broken.full.size_is in
    let size_is = why.size_is in
    let last_is = header.size_is in
    let more = why.more in
    let short = why.full.short in
    let ends = broken.ends in
    let same : length why.after ≡ length broken.header = ap (λ (l : List ℕ). length l) at.1 in
    let parts : length why.after ≡ length (header.low ∷ header.middle ∷ header.high ∷ id_after why.count seq ∷ header.rest) = ap (λ (l : List ℕ). length l) header.bytes_are in
    let none : length header.rest ≡ 0 = omega arith in
    let all = missing_all (size - length why.payload) (id_after why.count seq) header.low header.middle header.high header.rest none (omega arith) in
    let there = ap (λ (l : List ℕ). missing (size - length why.payload) (id_after why.count seq) l) header.bytes_are in
    record {
      count = why.count;
      payload = why.payload;
      after = why.after;
      full = full_grows limit size seq why.count why.payload fed why.after (omega arith) why.full;
      missing_is = omega arith;
      some = omega arith;
    }

-- a message whose packets are all that was fed was kept
no_part : (seq limit more : ℕ) (fed message : List ℕ) → IsPart limit seq more fed → fed ≡ packets seq message → ⊥
no_part seq limit more fed message part fed_is =
    let room = limit + length message in
    (one_front room seq fed).message_is_whole more message [] record { short = omega arith; bytes_are = fed_is ∙ sym (append-nil (packets seq message)) } (part_grows limit room seq more fed (omega arith) part)

no_wrong_id : (seq limit found wanted : ℕ) (fed message : List ℕ) → HasWrongId limit seq found wanted fed → fed ≡ packets seq message → ⊥
no_wrong_id seq limit found wanted fed message wrong fed_is =
    let room = limit + length message in
    (one_front room seq fed).message_is_right found wanted message [] record { short = omega arith; bytes_are = fed_is ∙ sym (append-nil (packets seq message)) } record {
      count = wrong.count;
      size = wrong.size;
      payload = wrong.payload;
      after = wrong.after;
      full = full_grows limit room seq wrong.count wrong.payload fed wrong.after (omega arith) wrong.full;
      header = wrong.header;
      wanted_is = wrong.wanted_is;
      other = wrong.other;
    }

kept_at : (seq limit : ℕ) (fed message : List ℕ) (skim : Skimmed) (stage : Stage) → IsAt seq limit fed skim stage → fed ≡ packets seq message → skim.kept ≡ take 1024 message
kept_at seq limit fed message skim Header at fed_is = absurd (no_part seq limit (4 - length skim.header) fed message (header_is_part seq limit fed skim at) fed_is)
kept_at seq limit fed message skim (Packet size left) at fed_is = absurd (no_part seq limit left fed message (packet_is_part seq limit size left fed skim at) fed_is)
kept_at seq limit fed message skim Whole at fed_is =
    let same = same_packets seq at.message message [] [] (sym at.whole.bytes_are ∙ fed_is ∙ sym (append-nil (packets seq message))) in
    at.kept ∙ ap (λ (l : List ℕ). take 1024 l) same.0
kept_at seq limit fed message skim (Wrong (BadSequence found wanted)) at fed_is = absurd (no_wrong_id seq limit found wanted fed message at.why fed_is)
kept_at seq limit fed message skim (Wrong (TooLong size)) at fed_is = absurd (no_part seq size (size - length at.payload) fed message (past_is_part limit seq size fed at) fed_is)

pub kept_of : (seq limit : ℕ) (fed message : List ℕ) (skim : Skimmed) → Skims seq limit fed skim → fed ≡ packets seq message → skim.kept ≡ take 1024 message
kept_of seq limit fed message skim skims fed_is = kept_at seq limit fed message skim skim.stage skims.at fed_is

-- what a skim has read, where it wants nothing and stands at no fault
read_at : (seq limit : ℕ) (fed : List ℕ) (skim : Skimmed) (stage : Stage) → IsAt seq limit fed skim stage → wanted_at stage skim.header ≡ 0 → skim_fault stage ≡ None → IsReadWhole seq limit fed skim
read_at seq limit fed skim Header at none right = let less = at.less in absurd (omega arith)
read_at seq limit fed skim (Packet size left) at none right = let some = at.some in absurd (omega arith)
read_at seq limit fed skim Whole at none right = at
read_at seq limit fed skim (Wrong fault) at none right = absurd (cc)

pub read_of : (seq limit : ℕ) (fed : List ℕ) (skim : Skimmed) → Skims seq limit fed skim → wanted skim ≡ 0 → fault_of skim ≡ None → IsReadWhole seq limit fed skim
read_of seq limit fed skim skims none right = read_at seq limit fed skim skim.stage skims.at none right
