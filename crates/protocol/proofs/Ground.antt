-- What the ranges of the settings give.
use Rattle.std.proofs.Common.{◌≡◌, ◌<◌, ◌≤◌, Bool, true, false, cond, ltb, leb, length, arith}
use Rattle.std.proofs.lemmas.Bool.{ltb-true, leb-true}
use Rattle.activation.specs.Ats.{ta_good}
use Rattle.activation.specs.Laws.{ValidAts}
use Rattle.frames.specs.Check.{both}
use Rattle.frames.specs.Sizes.{size_of, greatest_code}
use Rattle.protocol.specs.Settings.{ReaderSettings, CardSettings, reader_in_range, card_in_range, ats_for}
use Rattle.protocol.proofs.Basics.{both_left, both_right}
use Rattle.protocol.proofs.Ends.{size_least, Fits, fits, cid_for}

pub record Ground (rs : ReaderSettings) (cs : CardSettings) : Type 0 where
  pub fsdi_most : rs.fsdi ≤ greatest_code
  pub fsd_least : 16 ≤ size_of rs.fsdi
  pub number_most : rs.cid < 15
  pub fsc_least : 16 ≤ size_of cs.fsci
  pub few_historical : length cs.historical ≤ 9
  pub ats_good : ValidAts (ats_for cs)
  pub fitting : Fits cs rs.cid (cid_for cs.supports rs.cid)

tc_most : (b : Bool) → cond b 0x02 0x00 < 4
tc_most true = omega arith
tc_most false = omega arith

pub ground : (rs : ReaderSettings) (cs : CardSettings) → reader_in_range rs ≡ true → card_in_range cs ≡ true → Ground rs cs
ground rs cs r c =
    let fsdi : rs.fsdi ≤ greatest_code = leb-true _ _ (both_left _ _ r) in
    let number : rs.cid < 15 = ltb-true _ _ (both_left _ _ (both_right (leb rs.fsdi greatest_code) _ r)) in
    let fsci : cs.fsci ≤ greatest_code = leb-true _ _ (both_left _ _ c) in
    let c₁ = both_right (leb cs.fsci greatest_code) _ c in
    let c₂ = both_right (ltb cs.fwi 15) _ c₁ in
    let c₃ = both_right (ltb cs.sfgi 15) _ c₂ in
    let ta = both_left _ (leb (length cs.historical) 9) c₃ in
    record {
      fsdi_most = fsdi;
      fsd_least = size_least rs.fsdi fsdi;
      number_most = number;
      fsc_least = size_least cs.fsci fsci;
      few_historical =
          leb-true (length cs.historical) 9 (both_right (both (ltb cs.ta 256) (ta_good cs.ta)) _ c₃);
      ats_good =
          record {
            fsci_high = fsci;
            ta_byte = ltb-true cs.ta 256 (both_left _ _ ta);
            ta_allowed = both_right (ltb cs.ta 256) _ ta;
            fwi_high = ltb-true cs.fwi 15 (both_left _ _ c₁);
            sfgi_high = ltb-true cs.sfgi 15 (both_left _ _ c₂);
            tc_high = tc_most cs.supports;
          };
      fitting = fits cs rs.cid number;
    }
