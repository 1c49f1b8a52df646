-- Seats that went past the last job.
use Rattle.std.proofs.Common.{◌≡◌, ℕ, ◌≤◌, List, [], ◌∷◌, ◌++◌, length, map, get_or, sym, refl, ap, ◌∙◌, subst, arith, length-append}
use Rattle.std.proofs.lemmas.List.{length-map}
use Rattle.job_tickets.specs.Seats.{DealId, DealState, SeatState, AreOf, DrewEach, after_draw}
use Rattle.job_tickets.specs.Dealt.{IsPast}
use Rattle.job_tickets.proofs.DealtLemmas.{jobs_drawn_once}
use Rattle.ticket_tests.specs.Shared.{WentPast, AllWentPast, AreSharedOut}

-- the last of a list
last-is : (drawn : List ℕ) (number : ℕ) → get_or (drawn ++ number ∷ []) (length drawn) 0 ≡ number
last-is [] number = refl
last-is (x ∷ drawn) number = last-is drawn number

-- a seat that drew a number past the last job
pub went_past : (deal : DealId) (jobs number : ℕ) (old new : SeatState) → new ≡ after_draw old number
    → old.deal ≡ deal → jobs ≤ number → WentPast deal jobs new
went_past deal jobs number old new is of_deal past = record {
  of_deal = ap (λ (s : SeatState). s.deal) is ∙ of_deal;
  past = subst (λ (s : SeatState). IsPast jobs s.drawn) (sym is) (record {
    place = length old.drawn;
    there = omega (arith, length-append old.drawn (number ∷ []));
    past = subst (λ (n : ℕ). jobs ≤ n) (sym (last-is old.drawn number)) past;
  });
}

-- such seats can be given back
pub may_close : (deal : DealState) (jobs : ℕ) (seats : List SeatState) → AllWentPast deal jobs seats
    → AreOf deal seats
may_close deal jobs seats all = record {
  all_there = all.all_there;
  of_deal = λ place seat within. (all.each place seat within).of_deal;
}

-- what they drew has the number of each job, once
pub shared : (count jobs total : ℕ) (deal : DealState) (seats : List SeatState) → deal.seats ≡ count → 1 ≤ count
    → AllWentPast deal jobs seats → DrewEach total seats → AreSharedOut count jobs total
shared count jobs total deal [] made some all drew = absurd (omega (arith, all.all_there, made))
shared count jobs total deal (seat ∷ seats) made some all drew =
    let lists = map (λ (s : SeatState). s.drawn) (seat ∷ seats) in
    record {
      lists = lists;
      as_many = length-map (seat ∷ seats) (λ (s : SeatState). s.drawn) ∙ all.all_there ∙ made;
      dealt = drew;
      jobs_once = jobs_drawn_once total jobs 0 lists seat.drawn drew refl (all.each 0 seat (omega arith)).past;
    }
