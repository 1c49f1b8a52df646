-- The laws of chunks for keys of one column and for keys of several: one proof over an order serves both.
use Rattle.std.proofs.Common.{◌≡◌, ◌-◌, refl, ap, sym, ◌∙◌, subst, Bool, ◌&&◌, List, Option, Some, None}
use Rattle.std.specs.Prelude.{ℤ, int_lt}
use Rattle.std.proofs.Math.Path.{fun_ext}
use Rattle.honest_server.specs.Answer.{is_above, is_up_to}
use Rattle.honest_server.specs.WideKey.{comes_first, is_after, is_not_after}
use Rattle.chunk_forms.specs.Chunk.{bounds_of, holds, holds_wide}
use Rattle.chunk_forms.specs.Laws.{AreCut, BoundsRise, IsInOneChunk, KeysAreCut, KeysAreInOneChunk, Rise, WideBoundsRise, WideKeysAreCut, WideKeysAreInOneChunk, WideRise}
use Rattle.chunk_forms.specs.declared.key_range.KeyRange.{KeyRange}
use Rattle.chunk_forms.proofs.Orders.{Rises, all_rises, int_at_most, int_order, keys_rise_so, rises_all, wide_keys_rise_so, wide_order}
use Rattle.chunk_forms.proofs.Chunks.{after, held, in_one, not_after}
use Rattle.chunk_forms.proofs.Cuts.{cut, every_rises}

above_so : (bound : Option ℤ) (key : ℤ) → after int_lt bound key ≡ is_above bound key
above_so None key = refl
above_so (Some bound) key = refl

up_to_so : (bound : Option ℤ) (key : ℤ) → not_after int_lt bound key ≡ is_up_to bound key
up_to_so None key = refl
up_to_so (Some bound) key = sym (int_at_most key bound)

pub holds_so : held int_lt ≡ holds
holds_so = fun_ext (λ range. fun_ext (λ key. ap (λ b. b && not_after int_lt range.upto key) (above_so range.above key) ∙ ap (λ b. is_above range.above key && b) (up_to_so range.upto key)))

rises_of : (keys : List ℤ) → Rise keys → Rises int_lt keys
rises_of keys rise = rises_all int_lt int_order keys (sym (keys_rise_so keys) ∙ rise)

pub in_one_chunk : KeysAreInOneChunk
in_one_chunk bounds key rise = subst (λ (h : KeyRange ℤ → ℤ → Bool). IsInOneChunk h bounds key) holds_so (in_one int_lt int_order None bounds key tt (rises_of bounds rise))

pub are_cut : KeysAreCut
are_cut rows keys some rise = subst (λ (h : KeyRange ℤ → ℤ → Bool). AreCut h rows keys) holds_so (cut int_lt int_order rows keys some (rises_of keys rise))

pub bounds_rise : BoundsRise
bounds_rise rows keys rise = keys_rise_so (bounds_of rows keys) ∙ all_rises int_lt int_order (bounds_of rows keys) (every_rises int_lt int_order rows (rows - 1) keys (rises_of keys rise))

after_so : (bound : Option (List ℤ)) (key : List ℤ) → after comes_first bound key ≡ is_after bound key
after_so None key = refl
after_so (Some bound) key = refl

not_after_so : (bound : Option (List ℤ)) (key : List ℤ) → not_after comes_first bound key ≡ is_not_after bound key
not_after_so None key = refl
not_after_so (Some bound) key = refl

pub holds_wide_so : held comes_first ≡ holds_wide
holds_wide_so = fun_ext (λ range. fun_ext (λ key. ap (λ b. b && not_after comes_first range.upto key) (after_so range.above key) ∙ ap (λ b. is_after range.above key && b) (not_after_so range.upto key)))

wide_rises_of : (keys : List (List ℤ)) → WideRise keys → Rises comes_first keys
wide_rises_of keys rise = rises_all comes_first wide_order keys (sym (wide_keys_rise_so keys) ∙ rise)

pub wide_in_one_chunk : WideKeysAreInOneChunk
wide_in_one_chunk bounds key rise = subst (λ (h : KeyRange (List ℤ) → List ℤ → Bool). IsInOneChunk h bounds key) holds_wide_so (in_one comes_first wide_order None bounds key tt (wide_rises_of bounds rise))

pub wide_are_cut : WideKeysAreCut
wide_are_cut rows keys some rise = subst (λ (h : KeyRange (List ℤ) → List ℤ → Bool). AreCut h rows keys) holds_wide_so (cut comes_first wide_order rows keys some (wide_rises_of keys rise))

pub wide_bounds_rise : WideBoundsRise
wide_bounds_rise rows keys rise = wide_keys_rise_so (bounds_of rows keys) ∙ all_rises comes_first wide_order (bounds_of rows keys) (every_rises comes_first wide_order rows (rows - 1) keys (wide_rises_of keys rise))
