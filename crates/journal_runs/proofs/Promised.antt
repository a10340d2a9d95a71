-- What a run's functions promise is what their contracts say, whole: each equation by computing. A contract that promises less, asks something, or has another
-- call in it is refused at that function's name.
-- Assumes nothing.
use mathlib.Core.Path.{refl}
use Rattle.entry_in_place.specs.contracts.mfrc531_start as mfrc531_start
use Rattle.entry_in_place.specs.contracts.mfrc531_read as mfrc531_read
use Rattle.entry_in_place.specs.contracts.mfrc531_write as mfrc531_write
use Rattle.entry_in_place.specs.contracts.mfrc531_advance as mfrc531_advance
use Rattle.entry_in_place.specs.contracts.mfrc531_take as mfrc531_take
use Rattle.entry_in_place.specs.contracts.mfrc531_deliver as mfrc531_deliver
use Rattle.entry_in_place.specs.contracts.mfrc531_lost_sum as mfrc531_lost_sum
use Rattle.entry_by_value.specs.contracts.start as by_value_start
use Rattle.entry_by_value.specs.contracts.host_read as by_value_host_read
use Rattle.entry_by_value.specs.contracts.host_write as by_value_host_write
use Rattle.entry_by_value.specs.contracts.advance as by_value_advance
use Rattle.entry_by_value.specs.contracts.take as by_value_take
use Rattle.entry_by_value.specs.contracts.deliver as by_value_deliver
use Rattle.entry_by_value.specs.contracts.lost_sum as by_value_lost_sum
use Rattle.journal_runs.specs.Promised as contracts

pub start_in_place : contracts.WholeContract mfrc531_start.ended (λ M 𝓤. mfrc531_start.spec {M = M} {𝓤 = 𝓤}) contracts.start_in_place
start_in_place M 𝓤 𝓛 mem run κs args = refl

pub read_in_place : contracts.WholeContract mfrc531_read.ended (λ M 𝓤. mfrc531_read.spec {M = M} {𝓤 = 𝓤}) contracts.read_in_place
read_in_place M 𝓤 𝓛 mem run κs args = refl

pub write_in_place : contracts.WholeContract mfrc531_write.ended (λ M 𝓤. mfrc531_write.spec {M = M} {𝓤 = 𝓤}) contracts.write_in_place
write_in_place M 𝓤 𝓛 mem run κs args = refl

pub advance_in_place : contracts.WholeContract mfrc531_advance.ended (λ M 𝓤. mfrc531_advance.spec {M = M} {𝓤 = 𝓤}) contracts.advance_in_place
advance_in_place M 𝓤 𝓛 mem run κs args = refl

pub take_in_place : contracts.WholeContract mfrc531_take.ended (λ M 𝓤. mfrc531_take.spec {M = M} {𝓤 = 𝓤}) contracts.take_in_place
take_in_place M 𝓤 𝓛 mem run κs args = refl

pub deliver_in_place : contracts.WholeContract mfrc531_deliver.ended (λ M 𝓤. mfrc531_deliver.spec {M = M} {𝓤 = 𝓤}) contracts.deliver_in_place
deliver_in_place M 𝓤 𝓛 mem run κs args = refl

pub start_by_value : contracts.WholeContract by_value_start.ended (λ M 𝓤. by_value_start.spec {M = M} {𝓤 = 𝓤}) contracts.start_by_value
start_by_value M 𝓤 𝓛 mem run κs args = refl

pub read_by_value : contracts.WholeContract by_value_host_read.ended (λ M 𝓤. by_value_host_read.spec {M = M} {𝓤 = 𝓤}) contracts.read_by_value
read_by_value M 𝓤 𝓛 mem run κs args = refl

pub write_by_value : contracts.WholeContract by_value_host_write.ended (λ M 𝓤. by_value_host_write.spec {M = M} {𝓤 = 𝓤}) contracts.write_by_value
write_by_value M 𝓤 𝓛 mem run κs args = refl

pub advance_by_value : contracts.WholeContract by_value_advance.ended (λ M 𝓤. by_value_advance.spec {M = M} {𝓤 = 𝓤}) contracts.advance_by_value
advance_by_value M 𝓤 𝓛 mem run κs args = refl

pub take_by_value : contracts.WholeContract by_value_take.ended (λ M 𝓤. by_value_take.spec {M = M} {𝓤 = 𝓤}) contracts.take_by_value
take_by_value M 𝓤 𝓛 mem run κs args = refl

pub deliver_by_value : contracts.WholeContract by_value_deliver.ended (λ M 𝓤. by_value_deliver.spec {M = M} {𝓤 = 𝓤}) contracts.deliver_by_value
deliver_by_value M 𝓤 𝓛 mem run κs args = refl

pub sum_in_place : contracts.WholeContract mfrc531_lost_sum.ended (λ M 𝓤. mfrc531_lost_sum.spec {M = M} {𝓤 = 𝓤}) contracts.sum_in_place
sum_in_place M 𝓤 𝓛 mem run κs args = refl

pub sum_by_value : contracts.WholeContract by_value_lost_sum.ended (λ M 𝓤. by_value_lost_sum.spec {M = M} {𝓤 = 𝓤}) contracts.sum_by_value
sum_by_value M 𝓤 𝓛 mem run κs args = refl
