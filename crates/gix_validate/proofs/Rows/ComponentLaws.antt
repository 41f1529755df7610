-- The words of the laws on path components, at literal names and options.
use Rattle.gix_validate.proofs.Common.{◌≡◌, arith, true, false, [], ◌∷◌, ◌++◌, refl, codes}
use Rattle.gix_validate.proofs.Common.{false≢true}
use Rattle.gix_validate.specs.Private.Classes.{switches}
use Rattle.gix_validate.specs.ComponentLaws.{no_protections, HasOnlySwitchesOf, FormIsKeptUnits}
use Rattle.gix_validate.specs.ComponentLaws.{IsBasicName, DeviceIgnoresCase}
use Rattle.gix_validate.specs.Bytes.{lower_byte}
use Rattle.gix_validate.specs.Units.{units_within, first_unit_len, whole_sequences}
use Rattle.gix_validate.specs.Hfs.{is_ignored, hfs_form}
use Rattle.gix_validate.specs.Windows.{device_form, is_device, is_device_form, devices}
use Rattle.gix_validate.specs.Component.{all_protections}

every_switch : all_protections ≡ switches true true true
every_switch = refl

no_switch : no_protections ≡ switches false false false
no_switch = refl

fewer_switches : HasOnlySwitchesOf no_protections all_protections
    × HasOnlySwitchesOf all_protections all_protections
    × HasOnlySwitchesOf (switches false true false) (switches false true true)
fewer_switches = (grind arith, grind arith, grind arith)

other_switches : ¬ HasOnlySwitchesOf all_protections no_protections
    × ¬ HasOnlySwitchesOf (switches true false false) (switches false true true)
other_switches = (λ fewer. false≢true (fewer.ntfs refl), λ fewer. false≢true (fewer.windows refl))

basic_names : IsBasicName (codes "src") × IsBasicName (codes "...")
unfolding lower_byte
basic_names = (grind arith, grind arith)

other_names : ¬ IsBasicName [] × ¬ IsBasicName (codes ".") × ¬ IsBasicName (codes "..")
    × ¬ IsBasicName (codes "a/b") × ¬ IsBasicName (codes ".GiT")
unfolding lower_byte
other_names = (
  λ n. n.not_empty refl,
  λ n. n.not_here refl,
  λ n. n.not_above refl,
  λ n. false≢true n.no_slash,
  λ n. n.not_git refl,
)

kept_units_of_mark : FormIsKeptUnits (0xEF ∷ 0xBB ∷ 0xBF ∷ codes ".git" ++ 0xE2 ∷ 0x81 ∷ 0xAF ∷ [])
unfolding units_within first_unit_len whole_sequences is_ignored hfs_form
kept_units_of_mark = refl

device_in_any_case : DeviceIgnoresCase (codes "cOn.TXT")
unfolding is_device device_form is_device_form devices lower_byte
device_in_any_case = refl
