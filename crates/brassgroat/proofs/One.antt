-- Each export's contract names one answer and one later state of its buffers, since the library's promise does. The
-- contracts are the exports' own, read from the source (`Post`): one that said less than its promise could have no law
-- here. Assumes nothing.
use Prim.Native.Nat.{ℕ, ◌+◌}
use mathlib.Core.Path.{◌≡◌, sym, ap, ◌∙◌}
use mathlib.Core.List.{List}
use native.Mathlib.Omega.{arith}
use denote.Ref.{Bor}
use lib.ListN.{length}
use Rattle.table.specs.Answers.{number_of_answer}
use Rattle.rounding.proofs.Answers.{narrow_one, u8_one, s15_one}
use Rattle.lookup.proofs.Promises.{lookup_one}
use Rattle.rows.proofs.Promises.{row_one, bake_one}
use Rattle.gamma.proofs.Promises.{gamma_one}
use Rattle.curve.specs.Promises.{Sitting, sitting_on}
use Rattle.curve.proofs.Promises.{start_one, accept_one}
use Rattle.nudge.proofs.Promises.{nudge_one}
use Rattle.least.proofs.Promises.{least_one}
use Rattle.logged.specs.State.{Logged}
use Rattle.logged.specs.Promises.{Call, LogPromise}
use Rattle.logged.proofs.Promises.{log_one}
use Rattle.least_row.proofs.Promises.{least_row_one}
use Rattle.inverse.proofs.Promises.{inverse_one}
use Rattle.invert.proofs.Promises.{invert_one}
use Rattle.interp.proofs.Answers.{float_one, linear_one}
use Rattle.passthrough.proofs.Promises.{passthrough_one}
use Rattle.parametric.proofs.Unify.{new_one}
use Rattle.parametric.proofs.Compare.{compare_one}
use Rattle.monotonic.proofs.Promises.{monotonic_one}
use Rattle.degeneration.proofs.Promises.{degenerated_one}
use Rattle.house.proofs.Promises.{entry_one, fill_one}
use Rattle.power_curve.proofs.Promises.{power_one, power_table_one}
use Rattle.curv.proofs.Promises.{count_one}
use Rattle.curv_reader.proofs.Promises as curv-reader
use Rattle.curv_part.specs.Promises.{past}
use Rattle.curv_part.proofs.Promises.{part_one}
use Rattle.curv_writer.proofs.Promises as curv-writer
use Rattle.para.proofs.Promises as para
use Rattle.para_curve.proofs.Promises.{curve_one}
use Rattle.para_writer.proofs.Promises as para-writer
use Rattle.plain_answers.specs.Answers.{as_direction}
use Rattle.brassgroat.specs.declared.curv_tags.Part.{Part}
use Rattle.brassgroat.specs.Carried.{Carried, PartCarried}
use Rattle.brassgroat.specs.Contract.{OneAnswer, OneAnswerAndBuffer, OneAnswerAndTwo, OneAnswerAndThree, first}
use Rattle.brassgroat.specs.Contract.{second, third}
use Rattle.brassgroat.proofs.lookups.bg_lut_interp_linear16.Reads as bg_lut_interp_linear16
use Rattle.brassgroat.proofs.lookups.bg_lut_interp_linear16_row.Reads as bg_lut_interp_linear16_row
use Rattle.brassgroat.proofs.lookups.bg_bake.Reads as bg_bake
use Rattle.brassgroat.proofs.lookups.bg_lut_interp_linear_gamma_impl.Reads as bg_lut_interp_linear_gamma_impl
use Rattle.brassgroat.proofs.curves.bg_start.Reads as bg_start
use Rattle.brassgroat.proofs.curves.bg_accept.Reads as bg_accept
use Rattle.brassgroat.proofs.curves.bg_nudge.Reads as bg_nudge
use Rattle.brassgroat.proofs.logs.bg_log_start.Reads as bg_log_start
use Rattle.brassgroat.proofs.logs.bg_log_accept.Reads as bg_log_accept
use Rattle.brassgroat.proofs.logs.bg_log_nudge.Reads as bg_log_nudge
use Rattle.brassgroat.proofs.logs.bg_take_back.Reads as bg_take_back
use Rattle.brassgroat.proofs.inverses.bg_least_input.Reads as bg_least_input
use Rattle.brassgroat.proofs.inverses.bg_least_input_row.Reads as bg_least_input_row
use Rattle.brassgroat.proofs.inverses.bg_lut_inverse_interp16.Reads as bg_lut_inverse_interp16
use Rattle.brassgroat.proofs.inverses.bg_invert_lut.Reads as bg_invert_lut
use Rattle.brassgroat.proofs.floats.bg_lut_interp_linear_float.Reads as bg_lut_interp_linear_float
use Rattle.brassgroat.proofs.floats.bg_lut_interp_linear.Reads as bg_lut_interp_linear
use Rattle.brassgroat.proofs.floats.bg_passthrough_table_impl.Reads as bg_passthrough_table_impl
use Rattle.brassgroat.proofs.floats.bg_nearest_f64_to_f32.Reads as bg_nearest_f64_to_f32
use Rattle.brassgroat.proofs.floats.bg_u8_fixed_8number_to_float.Reads as bg_u8_fixed_8number_to_float
use Rattle.brassgroat.proofs.floats.bg_s15_fixed16_number_to_float.Reads as bg_s15_fixed16_number_to_float
use Rattle.brassgroat.proofs.parametrics.bg_parametric_curve_new.Reads as bg_parametric_curve_new
use Rattle.brassgroat.proofs.parametrics.bg_compare_parametric.Reads as bg_compare_parametric
use Rattle.brassgroat.proofs.verdicts.bg_is_curve_monotonic.Reads as bg_is_curve_monotonic
use Rattle.brassgroat.proofs.verdicts.bg_is_curve_degenerated.Reads as bg_is_curve_degenerated
use Rattle.brassgroat.proofs.house_curve.bg_house_entry.Reads as bg_house_entry
use Rattle.brassgroat.proofs.house_curve.bg_house_fill.Reads as bg_house_fill
use Rattle.brassgroat.proofs.powers.bg_power.Reads as bg_power
use Rattle.brassgroat.proofs.powers.bg_power_table.Reads as bg_power_table
use Rattle.brassgroat.proofs.powers.bg_tag_power.Reads as bg_tag_power
use Rattle.brassgroat.proofs.powers.bg_tag_power_table.Reads as bg_tag_power_table
use Rattle.brassgroat.proofs.curv_tags.bg_curv_count.Reads as bg_curv_count
use Rattle.brassgroat.proofs.curv_tags.bg_curv_read.Reads as bg_curv_read
use Rattle.brassgroat.proofs.curv_tags.bg_curv_part.Reads as bg_curv_part
use Rattle.brassgroat.proofs.curv_tags.bg_curv_write.Reads as bg_curv_write
use Rattle.brassgroat.proofs.para_tags.bg_para_read.Reads as bg_para_read
use Rattle.brassgroat.proofs.para_tags.bg_para_curve.Reads as bg_para_curve
use Rattle.brassgroat.proofs.para_tags.bg_para_write.Reads as bg_para_write
use Rattle.brassgroat.proofs.version.bg_version.Reads as bg_version

-- One answer of the library is one of the face; and so it is beside a later state.
module _ {K A L R E : Type 0} {places : L → R} where
  -- Where one answer of the library keeps a promise, one answer of the face keeps it carried over. [brassgroat]
  pub one_answer :
      {P : K → A → L → Type 0} →
      ((κs : K) (a : A) (l m : L) → P κs a l → P κs a m → l ≡ m) →
      OneAnswer (λ (κs : K) (a : A) (r : R) (e : E). Carried places (P κs a) r)
  one_answer one κs a r s e f x y =
      x.same ∙ ap places (one κs a x.answer y.answer x.kept y.kept) ∙ sym y.same

  -- Where the answer and the later buffer are one in the library, they are one in the face. [brassgroat]
  pub one-both :
      {S : Type 0} {buffer : E → S} {P : K → A → E → L → Type 0} →
      ((κs : K) (a : A) (e f : E) (l m : L) → P κs a e l → P κs a f m → (l ≡ m) × (buffer e ≡ buffer f)) →
      OneAnswerAndBuffer (λ (κs : K) (a : A) (r : R) (e : E). Carried places (P κs a e) r) buffer
  one-both one κs a r s e f x y =
      let both = one κs a e f x.answer y.answer x.kept y.kept in
      (x.same ∙ ap places both.0 ∙ sym y.same, both.1)

-- Looking up.
pub bg_lookup_one : OneAnswer bg_lut_interp_linear16.Post
bg_lookup_one = one_answer (λ κs a l m. lookup_one)

pub bg_row_one : OneAnswerAndBuffer bg_lut_interp_linear16_row.Post third
bg_row_one = one-both (λ κs a e f l m. row_one)

pub bg_bake_one : OneAnswerAndBuffer bg_bake.Post second
bg_bake_one = one-both (λ κs a e f l m. bake_one)

pub bg_gamma_one : OneAnswer bg_lut_interp_linear_gamma_impl.Post
bg_gamma_one = one_answer (λ κs a l m. gamma_one)

-- Working on a curve.
tables : {t u : List ℕ} → sitting_on t ≡ sitting_on u → t ≡ u
tables e = ap (λ (s : Sitting). s.table) e

pub bg_start_one : OneAnswerAndBuffer bg_start.Post first
bg_start_one = one-both (λ κs a e f l m x y. let both = start_one x y in (both.0, tables both.1))

pub bg_accept_one : OneAnswer bg_accept.Post
bg_accept_one = one_answer (λ κs a l m x y. (accept_one x y).0)

pub bg_nudge_one : OneAnswerAndBuffer bg_nudge.Post first
bg_nudge_one = one-both (λ κs a e f l m x y. let both = nudge_one x y in (both.0, tables both.1))

-- Taking nudges back: the answer, and what is left of the table, the log's words and the count.
log_all : {call : Call} {s a b : Logged} {r q : ℕ} →
    Carried number_of_answer (λ d. LogPromise call s d a) r → Carried number_of_answer (λ d. LogPromise call s d b) q →
    (r ≡ q) × (a.table ≡ b.table) × (a.log ≡ b.log) × (a.count ≡ b.count)
log_all x y =
    let both = log_one x.kept y.kept in (
      x.same ∙ ap number_of_answer both.0 ∙ sym y.same,
      ap (λ (s : Logged). s.table) both.1,
      ap (λ (s : Logged). s.log) both.1,
      ap (λ (s : Logged). s.count) both.1,
    )

pub bg_log_start_one : OneAnswerAndThree bg_log_start.Post first second third
bg_log_start_one κs a r s e f = log_all

pub bg_log_accept_one : OneAnswerAndTwo bg_log_accept.Post second third
bg_log_accept_one κs a r s e f x y = let all = log_all x y in (all.0, all.2, all.3)

pub bg_log_nudge_one : OneAnswerAndThree bg_log_nudge.Post first second third
bg_log_nudge_one κs a r s e f = log_all

pub bg_take_back_one : OneAnswerAndThree bg_take_back.Post first second third
bg_take_back_one κs a r s e f = log_all

-- From density back to drive.
pub bg_least_one : OneAnswer bg_least_input.Post
bg_least_one = one_answer (λ κs a l m. least_one)

pub bg_least_row_one : OneAnswerAndBuffer bg_least_input_row.Post third
bg_least_row_one = one-both (λ κs a e f l m. least_row_one)

pub bg_inverse_one : OneAnswer bg_lut_inverse_interp16.Post
bg_inverse_one = one_answer (λ κs a l m. inverse_one)

pub bg_invert_one : OneAnswerAndBuffer bg_invert_lut.Post second
bg_invert_one = one-both (λ κs a e f l m. invert_one)

-- Floats and parametric curves.
pub bg_float_one : OneAnswer bg_lut_interp_linear_float.Post
bg_float_one = one_answer (λ κs a l m. float_one)

pub bg_linear_one : OneAnswer bg_lut_interp_linear.Post
bg_linear_one = one_answer (λ κs a l m. linear_one)

pub bg_passthrough_one : OneAnswerAndBuffer bg_passthrough_table_impl.Post first
bg_passthrough_one = one-both (λ κs a e f l m. passthrough_one)

pub bg_narrow_one : OneAnswer bg_nearest_f64_to_f32.Post
bg_narrow_one κs a r s e f = narrow_one

pub bg_u8_one : OneAnswer bg_u8_fixed_8number_to_float.Post
bg_u8_one κs a r s e f = u8_one

pub bg_s15_one : OneAnswer bg_s15_fixed16_number_to_float.Post
bg_s15_one κs a r s e f = s15_one

pub bg_new_one : OneAnswer bg_parametric_curve_new.Post
bg_new_one = one_answer (λ κs a l m. new_one)

pub bg_compare_one : OneAnswer bg_compare_parametric.Post
bg_compare_one κs a r s e f = compare_one

-- Verdicts and the house curve.
pub bg_monotonic_one : OneAnswer bg_is_curve_monotonic.Post
bg_monotonic_one = one_answer (λ κs a. monotonic_one a.0.now (as_direction a.1.0))

pub bg_degenerated_one : OneAnswer bg_is_curve_degenerated.Post
bg_degenerated_one = one_answer (λ κs a. degenerated_one a.0.now)

pub bg_entry_one : OneAnswer bg_house_entry.Post
bg_entry_one = one_answer (λ κs a. entry_one a.0)

pub bg_fill_one : OneAnswerAndBuffer bg_house_fill.Post first
bg_fill_one = one-both (λ κs a e f l m. fill_one a.0.now l m e.0.now f.0.now)

-- Gamma curves.
pub bg_power_one : OneAnswer bg_power.Post
bg_power_one = one_answer (λ κs a l m. power_one)

pub bg_power_table_one : OneAnswerAndBuffer bg_power_table.Post first
bg_power_table_one = one-both (λ κs a e f l m. power_table_one)

pub bg_tag_power_one : OneAnswer bg_tag_power.Post
bg_tag_power_one = one_answer (λ κs a l m. power_one)

pub bg_tag_power_table_one : OneAnswerAndBuffer bg_tag_power_table.Post first
bg_tag_power_table_one = one-both (λ κs a e f l m. power_table_one)

-- Tags.
pub bg_count_one : OneAnswer bg_curv_count.Post
bg_count_one = one_answer (λ κs a l m. count_one)

pub bg_read_one : OneAnswerAndBuffer bg_curv_read.Post second
bg_read_one = one-both (λ κs a e f l m. curv-reader.read_one)

pub bg_write_curv_one : OneAnswerAndBuffer bg_curv_write.Post second
bg_write_curv_one = one-both (λ κs a e f l m. curv-writer.write_one)

pub bg_para_one : OneAnswer bg_para_read.Post
bg_para_one = one_answer (λ κs a l m. para.read_one)

pub bg_curve_one : OneAnswer bg_para_curve.Post
bg_curve_one = one_answer (λ κs a l m. curve_one)

pub bg_write_para_one : OneAnswerAndBuffer bg_para_write.Post third
bg_write_para_one = one-both (λ κs a e f l m. para-writer.write_one)

-- A tag's part has one answer in the face: two starts that lead to one place are one. [brassgroat]
pub part_carried_one : {tag : Bor (List ℕ)} {r s : Part} → PartCarried tag r → PartCarried tag s → r ≡ s
part_carried_one {tag} {r} {s} x y =
    let same = part_one x.kept y.kept in
    let place : past r.start tag.ref_ptr ≡ past s.start tag.ref_ptr = sym x.start ∙ same.2 ∙ y.start in
    let after : r.start + tag.ref_ptr.1 ≡ s.start + tag.ref_ptr.1 = ap (λ (p : ℕ × ℕ). p.1) place in
    let start : r.start ≡ s.start = omega arith in
    let len : r.len ≡ s.len = x.len ∙ ap length same.1 ∙ sym y.len in
    λ i. record { refusal = same.0 i; start = start i; len = len i }

pub bg_part_one : OneAnswer bg_curv_part.Post
bg_part_one κs a r s e f = part_carried_one

-- The version.
pub bg_version_one : OneAnswer bg_version.Post
bg_version_one κs a r s e f x y = x ∙ sym y
