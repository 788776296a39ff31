mod SlotBytes
