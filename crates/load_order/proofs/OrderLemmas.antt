-- The orders are total.
use Rattle.std.specs.Cmp.{IsStrictWeakOrder, IsTotalOrder}
use Rattle.std.specs.Ordering.{is_lt, ordering_then}
use Rattle.std.proofs.lemmas.Cmp.{nat_cmp_total, nat_list_cmp_total, on_total, then_total}
use Rattle.std.proofs.lemmas.List.Sorted.{ranks_by}
use Rattle.folder_forms.specs.LoadOrder.{by_name, load_cmp, name_cmp, table_name, trigger_rank}
use Rattle.server_data.specs.Equal.{kind_number}
use Rattle.server_data.specs.declared.data.Need.{Need}
use Rattle.server_data.specs.declared.data.Object.{Object}
use Rattle.std.specs.declared.cmp.Ordering.{Ordering}

pub load_total : IsTotalOrder load_cmp
load_total =
    then_total (on_total (λ (o : Object). kind_number o.kind) nat_cmp_total)
    (then_total (on_total (λ (o : Object). o.schema) nat_list_cmp_total)
    (then_total (on_total table_name nat_list_cmp_total)
    (then_total (on_total trigger_rank nat_cmp_total) (on_total (λ (o : Object). o.name) nat_list_cmp_total))))

pub load_ranks : IsStrictWeakOrder (λ (x y : Object). is_lt (load_cmp x y))
load_ranks = ranks_by load_total (λ (o : Object). o)

-- two needs, by schema and name
abbrev pub need_cmp : Need → Need → Ordering
need_cmp one other = ordering_then (name_cmp one.schema other.schema) (name_cmp one.name other.name)

pub need_total : IsTotalOrder need_cmp
need_total = then_total (on_total (λ (n : Need). n.schema) nat_list_cmp_total) (on_total (λ (n : Need). n.name) nat_list_cmp_total)

-- what a view is called, as a need
abbrev pub called : Object → Need
called view = record { schema = view.schema; name = view.name }

pub name_ranks : IsStrictWeakOrder (λ (x y : Object). is_lt (by_name x y))
name_ranks = ranks_by need_total called
