-- What proofs use of the kit's library.
pub use Rattle.std.proofs.Common.{All, AllPairs, Bool, Bor, Contains, Err, Fits, IfOk, IfSome}
pub use Rattle.std.proofs.Common.{IsTrue, List, MatchResult, None, Ok, OnErr, OnOk, Option, Result}
pub use Rattle.std.proofs.Common.{Some, [], add-one, add-zero, ap, append-nil, append_assoc, ap₂}
pub use Rattle.std.proofs.Common.{arith, bit_and, bit_or, bit_xor, bytes_eq, codes, cond, drop}
pub use Rattle.std.proofs.Common.{drop-drop, drop-set-lt, drop_at, drop_of_length-le, eq-eqb, eqb}
pub use Rattle.std.proofs.Common.{eqb-true, false, filter, flat_map, get_or, get_or-drop}
pub use Rattle.std.proofs.Common.{get_or-set_other, get_or-take, if◌then◌else◌, inl, inr, is_none}
pub use Rattle.std.proofs.Common.{is_ok, is_some, length, length-append, length-drop, length-set}
pub use Rattle.std.proofs.Common.{length-take, length-take-le, ltb, ltb-true, map, max, min}
pub use Rattle.std.proofs.Common.{mod-eq_of_lt, mod-lt, mul-add, mul-le-mul_left, nat_eq, nat_le}
pub use Rattle.std.proofs.Common.{nat_lt, not, option_and_then, option_map, position, refl}
pub use Rattle.std.proofs.Common.{replicate, reverse, rules, set, slice_index, subst, suc, sum_by}
pub use Rattle.std.proofs.Common.{sym, take, take-add, take-append-drop, take-take, take_all}
pub use Rattle.std.proofs.Common.{take_at, tests, true, unwrap_or, vec_capacity, w64, w8, zero, ℕ}
pub use Rattle.std.proofs.Common.{◌%◌, ◌&&◌, ◌*◌, ◌++◌, ◌+◌, ◌-◌, ◌/◌, ◌<◌, ◌==◌, ◌^◌, ◌||◌, ◌↔◌}
pub use Rattle.std.proofs.Common.{◌∙◌, ◌∷◌, ◌≡◌, ◌≢◌, ◌≤◌, ◌⊎◌}
pub use Rattle.std.proofs.lemmas.Bool.{agree_below, agree_below_at, and_from, and_parts, cases_Bool}
pub use Rattle.std.proofs.lemmas.Bool.{cases_lt, cond-false, cond_both, false_from_ne_true}
pub use Rattle.std.proofs.lemmas.Bool.{false≢true, not_from_false, or_cases, or_parts}
pub use Rattle.std.proofs.lemmas.List.{at_drop_all, at_drop_more, drop-map, drop-take, drop_all}
pub use Rattle.std.proofs.lemmas.List.{drop_more, get_or-append_right, get_or-map, get_or-replicate}
pub use Rattle.std.proofs.lemmas.List.{get_or_append_left, get_or_past, length-map, length-reverse}
pub use Rattle.std.proofs.lemmas.List.{map-append, map-set, nil_from_length, same_from_push}
pub use Rattle.std.proofs.lemmas.List.{take-append-le, take-map, take_more, take_more_set}
pub use Rattle.std.proofs.lemmas.List.{take_rest}
pub use Rattle.std.proofs.lemmas.List.Elements.{All-append, All-cons, All-from_get_or}
pub use Rattle.std.proofs.lemmas.List.Elements.{All-from_recursion, All-head, All-map, All-push}
pub use Rattle.std.proofs.lemmas.List.Elements.{All-tail, All-take, Contains-append_right}
pub use Rattle.std.proofs.lemmas.List.Folds.{Any-from_list_any, find-append, find-set, find_at}
pub use Rattle.std.proofs.lemmas.List.Folds.{find_past, list_all-append, list_any-append}
pub use Rattle.std.proofs.lemmas.List.Folds.{list_any_at, list_any_none, prefix_len-append}
pub use Rattle.std.proofs.lemmas.List.Splits.{join_with_byte-slice_split, length-slice_split}
pub use Rattle.std.proofs.lemmas.List.Splits.{slice_split_first, slice_split_none}
pub use Rattle.std.proofs.lemmas.List.Sums.{AllPass-from_list_all, fails_before_first}
pub use Rattle.std.proofs.lemmas.List.Sums.{list_all-from_AllPass, position_or_len_is}
pub use Rattle.std.proofs.lemmas.List.Sums.{suffix_len-le-length}
pub use Rattle.std.proofs.lemmas.Nat.Bits.{and_pow, bit_at-trailing_zeros, bit_at-zero}
pub use Rattle.std.proofs.lemmas.Nat.Bits.{bit_at_above, bit_at_and, bit_at_or, same_from_bits}
pub use Rattle.std.proofs.lemmas.Option.{IfSome_then, MatchOption-at_some, slice_get-map}
pub use Rattle.std.proofs.lemmas.Option.{slice_get_past, slice_get_read}
pub use Rattle.std.proofs.lemmas.Simd.{SwzOk, bit_mask_l, bitmask_splat, get_or-chunk, get_or-zip2}
pub use Rattle.std.proofs.lemmas.Simd.{length-chunk, length-zip2, map-map, mask_l-lt, mask_l-mod}
pub use Rattle.std.proofs.lemmas.Simd.{swz_l, zip2-map, zip2_splat}
pub use Rattle.std.proofs.KnownBytes.{Appends-nil, Appends-trans, Consumes-nil, Consumes-trans}
pub use Rattle.std.proofs.Math.Bool.{and-false, or-false}
pub use Rattle.std.proofs.Math.Seq.{drop-append-add, take-append-add}
pub use Rattle.std.proofs.lemmas.Bool.Decides.{Decides-eqb, nat_tests}
pub use Rattle.std.proofs.lemmas.Grind.{common_steps, get_or-set_at, reverse_onto}
pub use Rattle.std.proofs.lemmas.Iterator.{YieldsList-from_slice, items_from_drains}
pub use Rattle.std.proofs.lemmas.Iterator.Search.{any_from_yields_List, position_from_yields_List}
pub use Rattle.std.proofs.lemmas.Iterator.Splits.{YieldsList-from_slice_split}
pub use Rattle.std.proofs.lemmas.Nat.{and_mask, le_or_l, le_or_r}
pub use Rattle.std.proofs.lemmas.Result.{IfOk-weaker, on_ok_weaker}
pub use Rattle.std.proofs.lemmas.Slice.Eq.{bytes_eq-Decides, strip_prefix_is}
pub use Rattle.std.specs.List.{AllByRecursion, AllWithin, FoldsTo, after_first, before_first}
pub use Rattle.std.specs.List.{concat, list_all, list_any, position_or_len, prefix_len}
pub use Rattle.std.specs.List.{range_with_len}
pub use Rattle.std.specs.Char.{to_ascii_lowercase}
pub use Rattle.std.specs.Fmt.{HasWritten, IsPlainFormatter, WritesInCalls, WritesText}
pub use Rattle.std.specs.Fmt.{option_append}
pub use Rattle.std.specs.Int.{bit_at}
pub use Rattle.std.specs.Io.KnownBytes.{Appends, Consumes}
pub use Rattle.std.specs.Prelude.{⊤}
pub use Rattle.std.specs.Str.{byte}
